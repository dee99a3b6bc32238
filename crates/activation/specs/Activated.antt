-- What an activation makes of a number. Document 01, 'The recurrence' (its last paragraph).
use Rattle.std.specs.Prelude.{◌≡◌, cond, Float}
use Rattle.std.specs.Float.{binary32}
use Rattle.std.specs.Float.Ieee.{of_bits, add, div, lt, mul, neg}
use Rattle.exponent.specs.Exp.{E}
use Rattle.tangent.specs.Tanh as tangent
use Rattle.activation.specs.declared.Activation.{Activation}
use Rattle.activation.specs.declared.Activation.TheVariants.{Tanh, Relu, Sigmoid, LeakyRelu}

-- +0 and 1
abbrev pub zero32 : Float
zero32 = of_bits binary32 0

abbrev pub one32 : Float
one32 = of_bits binary32 0x3f80_0000

-- ReLU: x above 0 is kept, all else, -0 and NaN too, gives +0
unfoldable pub relu : Float → Float
relu x = cond (lt zero32 x) x zero32

-- LeakyReLU: x above 0 is kept, else slope x x
unfoldable pub leaky : Float → Float → Float
leaky slope x = cond (lt zero32 x) x (mul binary32 slope x)

-- Sigmoid: 1 / (1 + E(-x))
unfoldable pub sigmoid : Float → Float
sigmoid x = div binary32 one32 (add binary32 one32 (E (neg x)))

-- an activation with its slope is one value
unfoldable pub activated : Activation → Float → Float
activated Tanh x = tangent.Tanh x
activated Relu x = relu x
activated Sigmoid x = sigmoid x
activated (LeakyRelu slope) x = leaky slope x

-- post, the results of a closure, are those of g
abbrev pub Computes : (Float → Float → Type 0) → (Float → Float) → Type 0
Computes post g = (x y : Float) → post x y → y ≡ g x
