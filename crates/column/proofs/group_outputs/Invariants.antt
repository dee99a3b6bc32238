use mathlib.Core.Path.{◌≡◌}
use Prim.Native.Nat.{◌+◌, ◌*◌, ◌-◌, ◌≤◌}
use lib.ListN.{length}
use Rattle.column.specs.Recurrence.{output}
use Rattle.ring.specs.Held.{held}
use Rattle.lists.specs.Tab.{rows}
use Rattle.column.proofs.group_outputs.Given as goal

abbrev pub invariant-loop-i : goal.invariant-loop-i
invariant-loop-i l =
    (l.i ≤ l.opg) × (length l.work ≡ length l.initial.work) × (l.work ≡ rows (l.out.first + l.first * l.out.stride) l.out.stride 1 l.i (λ i t. output l.filter.shape l.filter.weights.now (held l.memory) (l.first + i)) l.initial.work)

abbrev pub decreases-loop-i : goal.decreases-loop-i
decreases-loop-i l = l.opg - l.i
