-- `breaks_parts` is the definition's expression.
use mathlib.Core.Path.{refl}
use Rattle.description.specs.ZeroRules.{breaks_parts}
use Rattle.description.proofs.zeros.breaks_parts.Goals as goal

pub returns : goal.returns
unfolding breaks_parts
returns c = refl
