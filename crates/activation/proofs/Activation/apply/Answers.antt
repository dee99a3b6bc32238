use Rattle.activation.specs.Activated.{activated}
use Rattle.activation.proofs.Activation.apply.Goals as goal

pub returns-in-Tanh : goal.returns-in-Tanh
unfolding activated
returns-in-Tanh c = rw c.in-Tanh.is c.tanh.ensures

pub returns-in-Relu : goal.returns-in-Relu
unfolding activated
returns-in-Relu c = rw c.in-Relu.is c.relu_of.ensures

pub returns-in-Sigmoid : goal.returns-in-Sigmoid
unfolding activated
returns-in-Sigmoid c = rw c.in-Sigmoid.is c.sigmoid_of.ensures

pub returns-in-LeakyRelu : goal.returns-in-LeakyRelu
unfolding activated
returns-in-LeakyRelu c = rw c.in-LeakyRelu.is c.leaky_of.ensures
