use mathlib.Core.Path.{◌≡◌}
use Prim.Native.Nat.{◌+◌, ◌-◌, ◌≤◌, ◌<◌}
use lib.ListN.{length}
use Rattle.lists.specs.Tab.{at, fill}
use Rattle.sums.proofs.lanes.save.Given as goal

abbrev pub invariant-loop-i : goal.invariant-loop-i
invariant-loop-i g l =
    (0 < l.i) × (l.i ≤ g.row.L) × (length l.work ≡ length l.initial.work) × (l.work ≡ fill (l.to + 1) (l.i - 1) (λ k. at l.sums (1 + k)) l.initial.work)

abbrev pub decreases-loop-i : goal.decreases-loop-i
decreases-loop-i g l = g.row.L - l.i
