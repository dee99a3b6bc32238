use Rattle.shape.specs.Counts.{outputs_per_group}
use Rattle.shape.proofs.Shape.outputs_per_group.Goals as goal

pub returns : goal.returns
unfolding outputs_per_group
returns c = c.per_group.ensures
