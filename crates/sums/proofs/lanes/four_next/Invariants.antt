use mathlib.Core.Path.{◌≡◌}
use Prim.Native.Nat.{◌+◌, ◌*◌, ◌-◌, ◌≤◌}
use lib.ListN.{length}
use Rattle.sums.specs.Fits.{OutputsFit}
use Rattle.sums.specs.Product.{product}
use Rattle.single.specs.Sum.{sum_from}
use Rattle.lists.specs.Tab.{at, tab}
use Rattle.sums.proofs.lanes.four_next.Given as goal

abbrev pub invariant-loop-j : goal.invariant-loop-j
invariant-loop-j g l =
    (l.j ≤ 4) × (length l.r ≡ g.row.L) × OutputsFit (length l.values) (length l.weights) l.from l.w l.between (g.row.L - 1) 1 4
    × (l.r ≡ tab g.row.L (λ i. sum_from (at l.initial.r i) l.j (product l.weights (l.w + i * l.between) 1 (λ j. at l.values (l.from + j)))))

abbrev pub decreases-loop-j : goal.decreases-loop-j
decreases-loop-j g l = 4 - l.j
