-- The loop keeps UnderWay and OnPlan: the stages are where the plan's turns so far took them, and the rest of the plan keeps the rule (ByPlan).
use mathlib.Core.Path.{refl, ◌∙◌}
use native.Mathlib.Omega.{arith}
use borrow.Author.Rules.{rules}
use lib.ListN.{get_or}
use Rattle.std.specs.Slice.Iter.{chunks_exact_rest}
use Rattle.turns.specs.Plan.{taken}
use Rattle.description.proofs.Sound.{layers_are}
use Rattle.calls.proofs.UnderWay.{turn_fits, blocks_fit}
use Rattle.calls.proofs.ByPlan.{plan_begins, this_turn, within_block, plan_goes_on, planned_begins, planned_goes_on, planned_ends}
use Rattle.calls.proofs.plans.turns_in_order.Goals as goal

pub loop-pair-init : goal.loop-pair-init
loop-pair-init c = (search rules, c.requires.fit, c.requires.starts, plan_begins _ _ c.args.plan.now _ _ (search rules) c.requires.reached_value c.requires.plan_value, planned_begins _ _ c.requires.fit _ c.requires.reached_value, search rules)

pub offset_bounds-reached-k : goal.offset_bounds-reached-k
offset_bounds-reached-k c = omega (arith, (this_turn _ _ c.loop-pair.invariant.3 c.in-Some.pair.now (chunks_exact_rest c.next.new.self) c.in-Some.ensures.steps.1.0 (c.in-Some.ensures.steps.1.1 ∙ c.loop-pair.invariant.0)).there, (layers_are c.args.sources.now.description.now c.loop-pair.invariant.1.admitted.described).most)

pub bounds-reached-k : goal.bounds-reached-k
bounds-reached-k c = omega (arith, (this_turn _ _ c.loop-pair.invariant.3 c.in-Some.pair.now (chunks_exact_rest c.next.new.self) c.in-Some.ensures.steps.1.0 (c.in-Some.ensures.steps.1.1 ∙ c.loop-pair.invariant.0)).there, c.loop-pair.invariant.3.stages)

pub offset_bounds-places-k : goal.offset_bounds-places-k
offset_bounds-places-k c = omega (arith, (this_turn _ _ c.loop-pair.invariant.3 c.in-Some.pair.now (chunks_exact_rest c.next.new.self) c.in-Some.ensures.steps.1.0 (c.in-Some.ensures.steps.1.1 ∙ c.loop-pair.invariant.0)).there, (layers_are c.args.sources.now.description.now c.loop-pair.invariant.1.admitted.described).most)

pub bounds-places-k : goal.bounds-places-k
bounds-places-k c = omega (arith, (this_turn _ _ c.loop-pair.invariant.3 c.in-Some.pair.now (chunks_exact_rest c.next.new.self) c.in-Some.ensures.steps.1.0 (c.in-Some.ensures.steps.1.1 ∙ c.loop-pair.invariant.0)).there, (layers_are c.args.sources.now.description.now c.loop-pair.invariant.1.admitted.described).most)

pub turn-requires : goal.turn-requires
turn-requires c =
    record {
      stage_fits = turn_fits _ c.loop-pair.invariant.1 c.loop-pair.invariant.4 _ (get_or c.in-Some.pair.now 0 0) (this_turn _ _ c.loop-pair.invariant.3 c.in-Some.pair.now (chunks_exact_rest c.next.new.self) c.in-Some.ensures.steps.1.0 (c.in-Some.ensures.steps.1.1 ∙ c.loop-pair.invariant.0)).there refl refl (this_turn _ _ c.loop-pair.invariant.3 c.in-Some.pair.now (chunks_exact_rest c.next.new.self) c.in-Some.ensures.steps.1.0 (c.in-Some.ensures.steps.1.1 ∙ c.loop-pair.invariant.0)).some (within_block _ _ c.loop-pair.invariant.3 c.in-Some.pair.now (chunks_exact_rest c.next.new.self) c.in-Some.ensures.steps.1.0 (c.in-Some.ensures.steps.1.1 ∙ c.loop-pair.invariant.0)) (c.loop-pair.invariant.2.each (get_or c.in-Some.pair.now 0 0) (this_turn _ _ c.loop-pair.invariant.3 c.in-Some.pair.now (chunks_exact_rest c.next.new.self) c.in-Some.ensures.steps.1.0 (c.in-Some.ensures.steps.1.1 ∙ c.loop-pair.invariant.0)).there);
      blocks_fit = blocks_fit _ c.loop-pair.invariant.1 c.loop-pair.invariant.4;
    }

pub overflow_add-reached : goal.overflow_add-reached
overflow_add-reached c = omega (arith, (within_block _ _ c.loop-pair.invariant.3 c.in-Some.pair.now (chunks_exact_rest c.next.new.self) c.in-Some.ensures.steps.1.0 (c.in-Some.ensures.steps.1.1 ∙ c.loop-pair.invariant.0)), c.loop-pair.invariant.1.admitted.columns)

pub offset_bounds-reached-k-in-loop-pair : goal.offset_bounds-reached-k-in-loop-pair
offset_bounds-reached-k-in-loop-pair c = omega (arith, (this_turn _ _ c.loop-pair.invariant.3 c.in-Some.pair.now (chunks_exact_rest c.next.new.self) c.in-Some.ensures.steps.1.0 (c.in-Some.ensures.steps.1.1 ∙ c.loop-pair.invariant.0)).there, (layers_are c.args.sources.now.description.now c.loop-pair.invariant.1.admitted.described).most)

pub bounds-reached-k-in-loop-pair : goal.bounds-reached-k-in-loop-pair
bounds-reached-k-in-loop-pair c = omega (arith, (this_turn _ _ c.loop-pair.invariant.3 c.in-Some.pair.now (chunks_exact_rest c.next.new.self) c.in-Some.ensures.steps.1.0 (c.in-Some.ensures.steps.1.1 ∙ c.loop-pair.invariant.0)).there, c.loop-pair.invariant.3.stages)

pub loop-pair-preserved : goal.loop-pair-preserved
unfolding taken
loop-pair-preserved c =
    let l = c.loop-pair in (
      c.in-Some.ensures.steps.0 ∙ l.invariant.0,
      l.invariant.1,
      l.invariant.2,
      (plan_goes_on _ _ c.loop-pair.invariant.3 c.in-Some.pair.now (chunks_exact_rest c.next.new.self) c.in-Some.ensures.steps.1.0 (c.in-Some.ensures.steps.1.1 ∙ c.loop-pair.invariant.0)),
      planned_goes_on _ _ l.invariant.1 (get_or c.in-Some.pair.now 0 0) (get_or c.in-Some.pair.now 1 0) l.invariant.4 (this_turn _ _ c.loop-pair.invariant.3 c.in-Some.pair.now (chunks_exact_rest c.next.new.self) c.in-Some.ensures.steps.1.0 (c.in-Some.ensures.steps.1.1 ∙ c.loop-pair.invariant.0)) l.invariant.3.stages c.turn.ensures.turn_done c.turn.ensures.placed c.turn.ensures.same.head_long c.turn.ensures.same.array_long c.turn.auto.scratch,
      search rules,
    )

pub returns : goal.returns
returns c =
    record {
      done = planned_ends _ _ c.loop-pair.invariant.1 c.loop-pair.invariant.4 c.loop-pair.invariant.3 (omega (arith, c.in-None.ensures.steps.1.0, c.loop-pair.invariant.0));
      same = c.loop-pair.invariant.5;
    }
