-- `furthest` is the definition's limit, by whether there is a stage before.
use Rattle.admit.proofs.Turning.{limit-past, limit_zero}
use Rattle.admit.proofs.plan.furthest.Goals as goal

pub returns-then-stage-eq0 : goal.returns-then-stage-eq0
returns-then-stage-eq0 c = limit_zero _ _ _ c.if-stage-eq0.true

pub returns : goal.returns
returns c = limit-past _ _ _ c.if-stage-eq0.false
