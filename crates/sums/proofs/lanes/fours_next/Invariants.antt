use mathlib.Core.Path.{◌≡◌}
use Prim.Native.Nat.{◌+◌, ◌*◌, ◌-◌, ◌≤◌}
use lib.ListN.{length}
use Rattle.sums.specs.Fits.{OutputsFit}
use Rattle.sums.specs.Product.{product}
use Rattle.single.specs.Sum.{sum_from}
use Rattle.lists.specs.Tab.{at, tab}
use Rattle.sums.proofs.lanes.fours_next.Given as goal

abbrev pub invariant-loop-q : goal.invariant-loop-q
invariant-loop-q g l =
    (l.q ≤ l.n) × (length l.r ≡ g.row.L) × OutputsFit (length l.values) (length l.weights) l.from l.w l.between (g.row.L - 1) 1 (l.n * 4)
    × (l.r ≡ tab g.row.L (λ i. sum_from (at l.initial.r i) (l.q * 4) (product l.weights (l.w + i * l.between) 1 (λ j. at l.values (l.from + j)))))

abbrev pub decreases-loop-q : goal.decreases-loop-q
decreases-loop-q g l = l.n - l.q
