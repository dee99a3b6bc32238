-- `keeps_rule` meets its contract: as many zeros as there are stages are lent.
use Rattle.admit.proofs.Turning.{rule_from}
use Rattle.admit.proofs.plan.keeps_rule.Goals as goal

pub returns : goal.returns
returns c =
    let args = c.args in
    rule_from args.stages args.n args.plan.now c.requires c.walk.ensures
