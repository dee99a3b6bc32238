-- `breaks_zero_rule` joins the three tests.
use Rattle.description.specs.ZeroRules.{breaks_zero_rule}
use Rattle.description.proofs.zeros.breaks_zero_rule.Goals as goal

pub returns : goal.returns
unfolding breaks_zero_rule
returns c = rw (c.breaks_activations.ensures, c.breaks_parts.ensures, c.breaks_sites.ensures)
