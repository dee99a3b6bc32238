use borrow.Author.Rules.{rules}
use Rattle.activation.specs.Activated.{relu, leaky, sigmoid, activated}
use Rattle.tangent.specs.Tanh.{Tanh}
use Rattle.activation.proofs.Activation.apply_over.Goals as goal

pub returns-in-Tanh : goal.returns-in-Tanh
unfolding activated
returns-in-Tanh c = rw c.in-Tanh.is (c.over.ensures Tanh (λ x y e. search rules))

pub returns-in-Relu : goal.returns-in-Relu
unfolding activated
returns-in-Relu c = rw c.in-Relu.is (c.over-in-Relu.ensures relu (λ x y e. search rules))

pub returns-in-Sigmoid : goal.returns-in-Sigmoid
unfolding activated
returns-in-Sigmoid c = rw c.in-Sigmoid.is (c.over-in-Sigmoid.ensures sigmoid (λ x y e. search rules))

pub returns-in-LeakyRelu : goal.returns-in-LeakyRelu
unfolding activated
returns-in-LeakyRelu c = rw c.in-LeakyRelu.is (c.over-in-LeakyRelu.ensures (leaky c.in-LeakyRelu.slope) (λ x y e. search rules))
