-- `mixin` gives the shape of the definition; its output side is what `doubled` gives.
use Rattle.description.specs.Parts.{mixin_of}
use Rattle.description.proofs.parts.mixin.Goals as goal

pub returns : goal.returns
unfolding mixin_of
returns c = rw c.doubled-outs.ensures
