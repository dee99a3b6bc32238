use mathlib.Core.Path.{◌≡◌}
use Prim.Native.Nat.{◌-◌, ◌≤◌}
use Rattle.array.specs.Buffers.{SameBuffers, changed_by, lent}
use Rattle.array.specs.Stages.{stage_count}
use Rattle.array.specs.Turn.{start_of}
use Rattle.calls.specs.Fit.{Fit}
use Rattle.calls.proofs.UnderWay.{UnderWay}
use Rattle.calls.proofs.InOrder.{first_done}
use Rattle.calls.proofs.stages.stages_in_order.Given as goal

abbrev pub invariant-loop-k : goal.invariant-loop-k
invariant-loop-k l =
    (l.k ≤ l.stages) × (l.stages ≡ stage_count l.sources.description.now) × (l.start ≡ start_of l.sources.description.now l.k) × Fit (lent l.sources l.initial.buffers l.initial.scratch) l.n l.size
    × UnderWay (lent l.sources l.initial.buffers l.initial.scratch) l.n l.size (changed_by l.buffers l.scratch) (first_done l.n l.k) × (l.span ≡ record { size = l.size; n = l.n; from = 0; count = l.n })
    × SameBuffers l.initial.buffers l.buffers

abbrev pub decreases-loop-k : goal.decreases-loop-k
decreases-loop-k l = l.stages - l.k
