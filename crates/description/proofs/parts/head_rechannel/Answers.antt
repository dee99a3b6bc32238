-- `head_rechannel` gives the shape of the definition.
use mathlib.Core.Path.{refl}
use Rattle.description.specs.Parts.{head_rechannel_of}
use Rattle.description.proofs.parts.head_rechannel.Goals as goal

pub returns : goal.returns
unfolding head_rechannel_of
returns c = refl
