use mathlib.Core.Path.{◌≡◌}
use Prim.Native.Nat.{◌+◌, ◌*◌, ◌-◌, ◌≤◌}
use lib.ListN.{length}
use Rattle.column.specs.Recurrence.{tap_from}
use Rattle.lists.specs.Tab.{at, rows}
use Rattle.conv.proofs.tap_group.Given as goal

abbrev pub invariant-loop-i : goal.invariant-loop-i
invariant-loop-i l =
    (l.i ≤ l.opg) × (length l.work ≡ length l.initial.work)
    × (l.work ≡ rows (l.out.first + l.g * l.opg * l.out.stride) l.out.stride l.n l.i (λ i t. tap_from l.filter.shape l.filter.weights.now (λ c b. at l.initial.work (l.from.first + c * l.from.stride + t)) (l.g * l.opg + i) l.k (at l.initial.work (l.out.first + (l.g * l.opg + i) * l.out.stride + t))) l.initial.work)

abbrev pub decreases-loop-i : goal.decreases-loop-i
decreases-loop-i l = l.opg - l.i
