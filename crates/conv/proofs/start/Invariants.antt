use mathlib.Core.Path.{◌≡◌}
use Prim.Native.Nat.{◌-◌, ◌≤◌}
use lib.ListN.{length}
use Rattle.column.specs.Recurrence.{start_of}
use Rattle.lists.specs.Tab.{rows}
use Rattle.conv.proofs.start.Given as goal

abbrev pub invariant-loop-o : goal.invariant-loop-o
invariant-loop-o l =
    (l.o ≤ l.outs) × (length l.work ≡ length l.initial.work) × (l.work ≡ rows l.out.first l.out.stride l.n l.o (λ o t. start_of l.filter.shape l.filter.weights.now o) l.initial.work)

abbrev pub decreases-loop-o : goal.decreases-loop-o
decreases-loop-o l = l.outs - l.o
