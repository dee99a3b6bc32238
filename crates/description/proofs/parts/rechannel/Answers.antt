-- `rechannel` gives the shape of the definition.
use mathlib.Core.Path.{refl}
use Rattle.description.specs.Parts.{rechannel_of}
use Rattle.description.proofs.parts.rechannel.Goals as goal

pub returns : goal.returns
unfolding rechannel_of
returns c = refl
