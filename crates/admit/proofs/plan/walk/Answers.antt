-- `walk` meets its contract. The loop's invariant: the rest of the plan, from where the stages have reached, comes to what the whole plan does (Turning).
use mathlib.Core.Path.{sym, ◌∙◌}
use Prim.Native.Nat.{◌/◌}
use native.Mathlib.Omega.{arith}
use lib.ListN.{length}
use borrow.Author.Rules.{rules}
use Rattle.std.specs.Slice.Iter.{chunks_exact_rest}
use Rattle.turns.proofs.Rule.{odd_refused}
use Rattle.admit.proofs.Turning.{evened, plan_ended, turn_refused, turn_taken}
use Rattle.admit.proofs.plan.walk.Goals as goal

pub returns-then-plan-ne0 : goal.returns-then-plan-ne0
returns-then-plan-ne0 c =
    let args = c.args in
    sym (odd_refused _ args.n args.reached.now args.plan.now (length args.plan.now / 2) (omega arith))

pub returns-then-not-turn : goal.returns-then-not-turn
returns-then-not-turn c =
    let l = c.loop-pair in
    let s = c.in-Some.ensures.steps.1 in
    turn_refused (length c.args.reached.now) c.args.n l.reached _ l.invariant.2 (chunks_exact_rest l.pair-iterator) l.invariant.3 c.in-Some.pair.now (chunks_exact_rest c.next.new.self)
    s.0 (s.1 ∙ l.invariant.0) c.turn.ensures.value c.turn.ensures.reached_after c.if-not-turn.true

pub loop-pair-preserved : goal.loop-pair-preserved
loop-pair-preserved c =
    let l = c.loop-pair in
    let s = c.in-Some.ensures.steps.1 in (
      c.in-Some.ensures.steps.0 ∙ l.invariant.0,
      evened (chunks_exact_rest l.pair-iterator) c.in-Some.pair.now (chunks_exact_rest c.next.new.self) s.0 (s.1 ∙ l.invariant.0) l.invariant.1,
      search rules,
      turn_taken (length c.args.reached.now) c.args.n l.reached _ l.invariant.2 (chunks_exact_rest l.pair-iterator) l.invariant.3 c.in-Some.pair.now (chunks_exact_rest c.next.new.self)
          s.0 (s.1 ∙ l.invariant.0) c.turn.ensures.value c.turn.ensures.reached_after c.if-not-turn.false,
    )

pub returns : goal.returns
returns c =
    let l = c.loop-pair in
    let s = c.in-None.ensures.steps.1 in
    plan_ended (length c.args.reached.now) c.args.n l.reached _ l.invariant.2 (chunks_exact_rest l.pair-iterator) l.invariant.3 (length (chunks_exact_rest l.pair-iterator) / 2)
    (omega (arith, s.0, l.invariant.0)) (omega (arith, l.invariant.1)) c.all_at.ensures
