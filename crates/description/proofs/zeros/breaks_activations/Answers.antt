-- `breaks_activations` is the definition's expression.
use mathlib.Core.Path.{refl}
use Rattle.description.specs.ZeroRules.{breaks_activations}
use Rattle.description.proofs.zeros.breaks_activations.Goals as goal

pub returns : goal.returns
unfolding breaks_activations
returns c = refl
