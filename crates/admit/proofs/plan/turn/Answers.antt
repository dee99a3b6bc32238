-- `turn` meets its contract: each test against the definition's (Turning).
use mathlib.Core.Path.{refl}
use native.Mathlib.Omega.{arith}
use Rattle.turns.specs.Plan.{taken}
use Rattle.admit.proofs.Turning.{is_allowed, no_count, no_stage, too_far}
use Rattle.admit.proofs.plan.turn.Goals as goal

pub returns-then-reached-stage : goal.returns-then-reached-stage
returns-then-reached-stage c = record { value = no_stage _ c.args.reached.now _ _ c.if-reached-stage.true; reached_after = refl }

pub returns-then-count-lt1 : goal.returns-then-count-lt1
returns-then-count-lt1 c = record { value = no_count _ c.args.reached.now _ _ c.if-count-lt1.true; reached_after = refl }

pub returns-then-most-at : goal.returns-then-most-at
returns-then-most-at c =
    let args = c.args in
    record { value = too_far args.n args.reached.now args.stage args.count (omega (arith, c.furthest-most.ensures, c.if-most-at.true)); reached_after = refl }

pub returns-then-most-at-2 : goal.returns-then-most-at-2
returns-then-most-at-2 c =
    let args = c.args in
    record { value = too_far args.n args.reached.now args.stage args.count (omega (arith, c.furthest-most.ensures, c.if-most-at.false, c.if-most-at-2.true)); reached_after = refl }

pub returns : goal.returns
unfolding taken
returns c =
    let args = c.args in
    record { value = is_allowed args.n args.reached.now args.stage args.count (omega (arith, c.if-reached-stage.false)) (omega (arith, c.if-count-lt1.false)) (omega (arith, c.furthest-most.ensures, c.if-most-at.false, c.if-most-at-2.false)); reached_after = refl }
