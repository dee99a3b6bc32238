use Rattle.shape.specs.Counts.{inputs_per_group}
use Rattle.shape.proofs.Shape.inputs_per_group.Goals as goal

pub returns : goal.returns
unfolding inputs_per_group
returns c = c.per_group.ensures
