use mathlib.Core.Path.{◌≡◌}
use Prim.Native.Nat.{◌*◌, ◌-◌, ◌≤◌}
use lib.ListN.{length}
use Rattle.shape.specs.Counts.{outputs_per_group}
use Rattle.column.specs.Recurrence.{output}
use Rattle.ring.specs.Held.{held}
use Rattle.lists.specs.Tab.{rows}
use Rattle.column.proofs.outputs.Given as goal

abbrev pub invariant-loop-g : goal.invariant-loop-g
invariant-loop-g l =
    (l.g ≤ l.groups) × (length l.work ≡ length l.initial.work)
    × (l.work ≡ rows l.out.first l.out.stride 1 (l.g * outputs_per_group l.filter.shape) (λ o t. output l.filter.shape l.filter.weights.now (held l.memory) o) l.initial.work)

abbrev pub decreases-loop-g : goal.decreases-loop-g
decreases-loop-g l = l.groups - l.g
