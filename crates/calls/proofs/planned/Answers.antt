-- Each way out meets the contract (Answering): refused by 1 to 8, by 9, no columns, played.
use mathlib.Core.Path.{ap}
use Prim.Native.Nat.{ℕ, ◌+◌}
use native.Mathlib.Omega.{arith}
use Rattle.refusal.proofs.PassedOn.{passed_on}
use Rattle.description.proofs.Sound.{length_is, layers_are, layers_of}
use Rattle.calls.proofs.Answering.{planned_refused, plan_refused, plan_kept, rule_told, nothing_as, played_as, fit_of, sound_admitted, size_is, size_low, used_in, cut_long}
use Rattle.calls.proofs.planned.Goals as goal

pub returns-in_err-sizes-clause-answers : goal.returns-in_err-sizes-clause-answers
returns-in_err-sizes-clause-answers c = rw (passed_on c.from_residual.result c.from_residual.ensures) (planned_refused _ c.args.n (rw (c.shared-shared.ensures.histories, c.shared-shared.ensures.positions, c.shared-shared.ensures.head_out, c.shared-shared.ensures.array_out) at c.call.ensures) c.args.plan.now c.in_err-sizes.was)

pub read_array-a-requires : goal.read_array-a-requires
read_array-a-requires c = omega (arith, length_is c.args.sources.now.description.now (sound_admitted _ c.args.n (rw (c.shared-shared.ensures.histories, c.shared-shared.ensures.positions, c.shared-shared.ensures.head_out, c.shared-shared.ensures.array_out) at c.call.ensures) c.in_ok-sizes.was).described)

pub overflow_add-a : goal.overflow_add-a
overflow_add-a c = omega (arith, (layers_are c.args.sources.now.description.now (sound_admitted _ c.args.n (rw (c.shared-shared.ensures.histories, c.shared-shared.ensures.positions, c.shared-shared.ensures.head_out, c.shared-shared.ensures.array_out) at c.call.ensures) c.in_ok-sizes.was).described).most, layers_of c.args.sources.now.description.now c.read_array-a.ensures)

pub keeps_rule-requires : goal.keeps_rule-requires
keeps_rule-requires c = omega (arith, (layers_are c.args.sources.now.description.now (sound_admitted _ c.args.n (rw (c.shared-shared.ensures.histories, c.shared-shared.ensures.positions, c.shared-shared.ensures.head_out, c.shared-shared.ensures.array_out) at c.call.ensures) c.in_ok-sizes.was).described).most, layers_of c.args.sources.now.description.now c.read_array-a.ensures)

pub returns-then-not-keeps_rule-clause-answers : goal.returns-then-not-keeps_rule-clause-answers
returns-then-not-keeps_rule-clause-answers c = plan_refused _ c.args.n (rw (c.shared-shared.ensures.histories, c.shared-shared.ensures.positions, c.shared-shared.ensures.head_out, c.shared-shared.ensures.array_out) at c.call.ensures) c.in_ok-sizes.was c.args.plan.now (rule_told c.args.n c.args.plan.now _ (ap (λ (x : ℕ). x + 2) (layers_of c.args.sources.now.description.now c.read_array-a.ensures)) c.keeps_rule.ensures c.if-not-keeps_rule.true)

pub returns-then-n-eq0-clause-answers : goal.returns-then-n-eq0-clause-answers
returns-then-n-eq0-clause-answers c = nothing_as _ c.args.n _ (plan_kept _ c.args.n (rw (c.shared-shared.ensures.histories, c.shared-shared.ensures.positions, c.shared-shared.ensures.head_out, c.shared-shared.ensures.array_out) at c.call.ensures) c.in_ok-sizes.was c.args.plan.now (rule_told c.args.n c.args.plan.now _ (ap (λ (x : ℕ). x + 2) (layers_of c.args.sources.now.description.now c.read_array-a.ensures)) c.keeps_rule.ensures c.if-not-keeps_rule.false)) c.if-n-eq0.true (sound_admitted _ c.args.n (rw (c.shared-shared.ensures.histories, c.shared-shared.ensures.positions, c.shared-shared.ensures.head_out, c.shared-shared.ensures.array_out) at c.call.ensures) c.in_ok-sizes.was)

pub overflow_mul-size : goal.overflow_mul-size
overflow_mul-size c = omega (arith, size_low _ c.args.n (rw (c.shared-shared.ensures.histories, c.shared-shared.ensures.positions, c.shared-shared.ensures.head_out, c.shared-shared.ensures.array_out) at c.call.ensures) c.in_ok-sizes.was)

pub overflow_mul-used : goal.overflow_mul-used
overflow_mul-used c = omega (arith, size_low _ c.args.n (rw (c.shared-shared.ensures.histories, c.shared-shared.ensures.positions, c.shared-shared.ensures.head_out, c.shared-shared.ensures.array_out) at c.call.ensures) c.in_ok-sizes.was)

pub slice_bounds-by_plan-end : goal.slice_bounds-by_plan-end
slice_bounds-by_plan-end c = omega (arith, used_in _ c.args.n (rw (c.shared-shared.ensures.histories, c.shared-shared.ensures.positions, c.shared-shared.ensures.head_out, c.shared-shared.ensures.array_out) at c.call.ensures) c.in_ok-sizes.was)

pub by_plan-requires : goal.by_plan-requires
by_plan-requires c = record { fit = fit_of _ c.args.n (sound_admitted _ c.args.n (rw (c.shared-shared.ensures.histories, c.shared-shared.ensures.positions, c.shared-shared.ensures.head_out, c.shared-shared.ensures.array_out) at c.call.ensures) c.in_ok-sizes.was) c.if-n-eq0.false (size_is _ c.args.n (rw (c.shared-shared.ensures.histories, c.shared-shared.ensures.positions, c.shared-shared.ensures.head_out, c.shared-shared.ensures.array_out) at c.call.ensures) c.in_ok-sizes.was) (cut_long _ c.args.scratch.now (used_in _ c.args.n (rw (c.shared-shared.ensures.histories, c.shared-shared.ensures.positions, c.shared-shared.ensures.head_out, c.shared-shared.ensures.array_out) at c.call.ensures) c.in_ok-sizes.was)); plan_value = rule_told c.args.n c.args.plan.now _ (ap (λ (x : ℕ). x + 2) (layers_of c.args.sources.now.description.now c.read_array-a.ensures)) c.keeps_rule.ensures c.if-not-keeps_rule.false }

pub returns-clause-answers : goal.returns-clause-answers
returns-clause-answers c = played_as _ c.args.n _ _ _ (plan_kept _ c.args.n (rw (c.shared-shared.ensures.histories, c.shared-shared.ensures.positions, c.shared-shared.ensures.head_out, c.shared-shared.ensures.array_out) at c.call.ensures) c.in_ok-sizes.was c.args.plan.now (rule_told c.args.n c.args.plan.now _ (ap (λ (x : ℕ). x + 2) (layers_of c.args.sources.now.description.now c.read_array-a.ensures)) c.keeps_rule.ensures c.if-not-keeps_rule.false)) c.by_plan.ensures.done
