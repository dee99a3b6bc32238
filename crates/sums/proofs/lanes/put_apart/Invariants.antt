use mathlib.Core.Path.{◌≡◌}
use Prim.Native.Nat.{◌-◌, ◌≤◌}
use lib.ListN.{length}
use Rattle.lists.specs.Tab.{at, rows}
use Rattle.sums.proofs.lanes.put_apart.Given as goal

abbrev pub invariant-loop-i : goal.invariant-loop-i
invariant-loop-i g l =
    (l.i ≤ g.row.L) × (length l.work ≡ length l.initial.work) × (l.work ≡ rows l.to l.stride 1 l.i (λ i t. at l.sums i) l.initial.work)

abbrev pub decreases-loop-i : goal.decreases-loop-i
decreases-loop-i g l = g.row.L - l.i
