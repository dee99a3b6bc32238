use Rattle.activation.specs.Activated.{sigmoid}
use Rattle.activation.proofs.sigmoid_of.Goals as goal

pub returns : goal.returns
unfolding sigmoid
returns c = rw c.exp.ensures
