-- `uneven` asks the shape of a part that is there.
use Rattle.description.specs.Parts.{uneven_of}
use Rattle.description.proofs.parts.uneven.Goals as goal

pub uneven_shape-requires : goal.uneven_shape-requires
uneven_shape-requires c = c.requires.shape _ c.in-Some.is

pub returns-in-None : goal.returns-in-None
unfolding uneven_of
returns-in-None c = rw c.in-None.is

pub returns-in-Some : goal.returns-in-Some
unfolding uneven_of
returns-in-Some c = rw c.in-Some.is c.uneven_shape.ensures
