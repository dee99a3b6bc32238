use mathlib.Core.Path.{◌≡◌}
use Rattle.std.specs.Slice.Iter.{chunks_exact_rest, chunks_exact_size}
use Rattle.turns.specs.Plan.{limit}
use Rattle.array.specs.Buffers.{SameBuffers, changed_by, lent}
use Rattle.calls.specs.Fit.{Fit, Starts}
use Rattle.calls.proofs.UnderWay.{UnderWay}
use Rattle.calls.proofs.ByPlan.{OnPlan}
use Rattle.calls.proofs.plans.turns_in_order.Given as goal

abbrev pub invariant-loop-pair : goal.invariant-loop-pair
invariant-loop-pair l =
    (chunks_exact_size l.pair-iterator ≡ 2) × Fit (lent l.sources l.initial.buffers l.initial.scratch) l.n l.size × Starts l.sources.description.now l.places
    × OnPlan (lent l.sources l.initial.buffers l.initial.scratch) l.n (chunks_exact_rest l.pair-iterator) l.reached
    × UnderWay (lent l.sources l.initial.buffers l.initial.scratch) l.n l.size (changed_by l.buffers l.scratch) (limit l.n l.reached)
    × SameBuffers l.initial.buffers l.buffers
