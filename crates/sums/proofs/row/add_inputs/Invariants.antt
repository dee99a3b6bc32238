use mathlib.Core.Path.{◌≡◌}
use Prim.Native.Nat.{◌+◌, ◌*◌, ◌-◌, ◌≤◌}
use lib.ListN.{length}
use Rattle.sums.specs.Fits.{InputsFit}
use Rattle.sums.specs.Product.{product}
use Rattle.single.specs.Sum.{sum_from}
use Rattle.lists.specs.Tab.{at, tab}
use Rattle.sums.proofs.row.add_inputs.Given as goal

abbrev pub invariant-loop-j : goal.invariant-loop-j
invariant-loop-j l =
    (l.j ≤ l.many) × (length l.r ≡ 16) × InputsFit (length l.work) (length l.weights) l.from l.stride 16 l.w l.step l.many
    × (l.r ≡ tab 16 (λ i. sum_from (at l.initial.r i) l.j (product l.weights l.w l.step (λ j. at l.work (l.from + j * l.stride + i)))))

abbrev pub decreases-loop-j : goal.decreases-loop-j
decreases-loop-j l = l.many - l.j
