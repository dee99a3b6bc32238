use mathlib.Core.Path.{◌≡◌}
use Prim.Native.Nat.{ℕ, ◌+◌, ◌*◌, ◌-◌, ◌≤◌}
use lib.ListN.{length}
use lib.Ieee.{Float}
use Rattle.sums.specs.Fits.{OutputsFit}
use Rattle.sums.specs.Product.{product}
use Rattle.single.specs.Sum.{sum_from}
use Rattle.lists.specs.Tab.{at, tab}
use Rattle.sums.proofs.lanes.add_next.Given as goal

abbrev pub invariant-loop-j : goal.invariant-loop-j
invariant-loop-j g l =
    (l.j ≤ l.many) × (length l.r ≡ g.row.L) × OutputsFit (length l.values) (length l.weights) l.from l.w l.between (g.row.L - 1) 1 l.many
    × ((start : ℕ → Float) → l.initial.r ≡ tab g.row.L (λ i. sum_from (start i) l.initial.j (product l.weights (l.w + i * l.between) 1 (λ j. at l.values (l.from + j))))
    → l.r ≡ tab g.row.L (λ i. sum_from (start i) l.j (product l.weights (l.w + i * l.between) 1 (λ j. at l.values (l.from + j)))))

abbrev pub decreases-loop-j : goal.decreases-loop-j
decreases-loop-j g l = l.many - l.j
