use Rattle.activation.specs.Activated.{leaky}
use Rattle.activation.proofs.leaky_of.Goals as goal

pub returns-then-x : goal.returns-then-x
unfolding leaky
returns-then-x c = rw c.if-x.true

pub returns : goal.returns
unfolding leaky
returns c = rw c.if-x.false
