use mathlib.Core.Path.{◌≡◌}
use Prim.Native.Nat.{◌+◌, ◌*◌, ◌-◌, ◌≤◌}
use lib.ListN.{length}
use Rattle.shape.specs.Counts.{outputs_per_group}
use Rattle.column.specs.Recurrence.{tap_from}
use Rattle.lists.specs.Tab.{at, rows}
use Rattle.conv.proofs.tap.Given as goal

abbrev pub invariant-loop-g : goal.invariant-loop-g
invariant-loop-g l =
    (l.g ≤ l.groups) × (length l.work ≡ length l.initial.work)
    × (l.work ≡ rows l.out.first l.out.stride l.n (l.g * outputs_per_group l.filter.shape) (λ o t. tap_from l.filter.shape l.filter.weights.now (λ c b. at l.initial.work (l.from.first + c * l.from.stride + t)) o l.k (at l.initial.work (l.out.first + o * l.out.stride + t))) l.initial.work)

abbrev pub decreases-loop-g : goal.decreases-loop-g
decreases-loop-g l = l.groups - l.g
