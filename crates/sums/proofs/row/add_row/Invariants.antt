use mathlib.Core.Path.{◌≡◌}
use Prim.Native.Nat.{◌+◌, ◌*◌, ◌-◌, ◌/◌, ◌≤◌}
use lib.ListN.{length}
use Rattle.sums.specs.Fits.{RowFits}
use Rattle.sums.specs.Product.{product}
use Rattle.single.specs.Sum.{sum_from}
use Rattle.lists.specs.Tab.{at, fill}
use Rattle.sums.proofs.row.add_row.Given as goal

abbrev pub invariant-loop-i : goal.invariant-loop-i
invariant-loop-i l =
    (l.i ≤ l.q) × (l.q ≡ l.n / 16) × (length l.work ≡ length l.initial.work) × RowFits (length l.initial.work) (length l.weights) l.to l.from l.stride l.n l.w l.step l.many
    × (l.work ≡ fill l.to (l.i * 16) (λ t. sum_from (at l.initial.work (l.to + t)) l.many (product l.weights l.w l.step (λ j. at l.initial.work (l.from + j * l.stride + t)))) l.initial.work)

abbrev pub decreases-loop-i : goal.decreases-loop-i
decreases-loop-i l = l.q - l.i
