use Rattle.activation.specs.Activated.{relu}
use Rattle.activation.proofs.relu_of.Goals as goal

pub returns-then-x : goal.returns-then-x
unfolding relu
returns-then-x c = rw c.if-x.true

pub returns : goal.returns
unfolding relu
returns c = rw c.if-x.false
