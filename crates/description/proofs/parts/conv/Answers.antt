-- `conv` gives the shape of the definition; its output side is what `doubled` gives.
use Rattle.description.specs.Parts.{conv_of}
use Rattle.description.proofs.parts.conv.Goals as goal

pub returns : goal.returns
unfolding conv_of
returns c = rw c.doubled-outs.ensures
