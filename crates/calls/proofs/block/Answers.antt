-- Each way out meets the contract (Answering): refused, no columns, played.
use native.Mathlib.Omega.{arith}
use Rattle.refusal.proofs.PassedOn.{passed_on}
use Rattle.calls.proofs.Answering.{block_refused, nothing_as, played_as, fit_of, sound_block, sound_admitted, size_is, size_low, used_in, cut_long}
use Rattle.calls.proofs.block.Goals as goal

pub returns-in_err-sizes-clause-answers : goal.returns-in_err-sizes-clause-answers
returns-in_err-sizes-clause-answers c = rw (passed_on c.from_residual.result c.from_residual.ensures) (block_refused _ c.args.n (rw (c.shared-shared.ensures.histories, c.shared-shared.ensures.positions, c.shared-shared.ensures.head_out, c.shared-shared.ensures.array_out) at c.call.ensures) c.in_err-sizes.was)

pub returns-then-n-eq0-clause-answers : goal.returns-then-n-eq0-clause-answers
returns-then-n-eq0-clause-answers c = nothing_as _ c.args.n _ (sound_block _ c.args.n (rw (c.shared-shared.ensures.histories, c.shared-shared.ensures.positions, c.shared-shared.ensures.head_out, c.shared-shared.ensures.array_out) at c.call.ensures) c.in_ok-sizes.was) c.if-n-eq0.true (sound_admitted _ c.args.n (rw (c.shared-shared.ensures.histories, c.shared-shared.ensures.positions, c.shared-shared.ensures.head_out, c.shared-shared.ensures.array_out) at c.call.ensures) c.in_ok-sizes.was)

pub overflow_mul-size : goal.overflow_mul-size
overflow_mul-size c = omega (arith, size_low _ c.args.n (rw (c.shared-shared.ensures.histories, c.shared-shared.ensures.positions, c.shared-shared.ensures.head_out, c.shared-shared.ensures.array_out) at c.call.ensures) c.in_ok-sizes.was)

pub overflow_mul-used : goal.overflow_mul-used
overflow_mul-used c = omega (arith, size_low _ c.args.n (rw (c.shared-shared.ensures.histories, c.shared-shared.ensures.positions, c.shared-shared.ensures.head_out, c.shared-shared.ensures.array_out) at c.call.ensures) c.in_ok-sizes.was)

pub slice_bounds-stages_in_order-end : goal.slice_bounds-stages_in_order-end
slice_bounds-stages_in_order-end c = omega (arith, used_in _ c.args.n (rw (c.shared-shared.ensures.histories, c.shared-shared.ensures.positions, c.shared-shared.ensures.head_out, c.shared-shared.ensures.array_out) at c.call.ensures) c.in_ok-sizes.was)

pub stages_in_order-requires : goal.stages_in_order-requires
stages_in_order-requires c = fit_of _ c.args.n (sound_admitted _ c.args.n (rw (c.shared-shared.ensures.histories, c.shared-shared.ensures.positions, c.shared-shared.ensures.head_out, c.shared-shared.ensures.array_out) at c.call.ensures) c.in_ok-sizes.was) c.if-n-eq0.false (size_is _ c.args.n (rw (c.shared-shared.ensures.histories, c.shared-shared.ensures.positions, c.shared-shared.ensures.head_out, c.shared-shared.ensures.array_out) at c.call.ensures) c.in_ok-sizes.was) (cut_long _ c.args.scratch.now (used_in _ c.args.n (rw (c.shared-shared.ensures.histories, c.shared-shared.ensures.positions, c.shared-shared.ensures.head_out, c.shared-shared.ensures.array_out) at c.call.ensures) c.in_ok-sizes.was))

pub returns-clause-answers : goal.returns-clause-answers
returns-clause-answers c = played_as _ c.args.n _ _ _ (sound_block _ c.args.n (rw (c.shared-shared.ensures.histories, c.shared-shared.ensures.positions, c.shared-shared.ensures.head_out, c.shared-shared.ensures.array_out) at c.call.ensures) c.in_ok-sizes.was) c.stages_in_order.ensures.done
