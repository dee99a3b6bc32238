use mathlib.Core.Path.{◌≡◌}
use Prim.Native.Nat.{◌+◌, ◌-◌, ◌≤◌}
use lib.ListN.{length}
use Rattle.shape.specs.Counts.{ring_length}
use Rattle.ring.specs.Memory.{past}
use Rattle.column.specs.Recurrence.{taps_from}
use Rattle.lists.specs.Tab.{at, tab}
use Rattle.column.proofs.lanes.taps.Given as goal

abbrev pub invariant-loop-k : goal.invariant-loop-k
invariant-loop-k g l =
    (l.k ≤ l.kernel) × (length l.initial.r ≡ g.row.L) × (length l.r ≡ g.row.L)
    × (l.r ≡ tab g.row.L (λ i. taps_from l.filter.shape l.filter.weights.now (past l.filter.shape.ins (ring_length l.filter.shape) (record { history = l.history; place = l.fn.ring.at })) (l.o + i) l.k (at l.initial.r i)))

abbrev pub decreases-loop-k : goal.decreases-loop-k
decreases-loop-k g l = l.kernel - l.k
