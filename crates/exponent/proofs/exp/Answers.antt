-- `exp` is E: one comparison parts the two ways, and both are E of the pattern.
use Rattle.exponent.specs.Exp.{E}
use mathlib.Core.Path.{◌∙◌}
use Rattle.exponent.proofs.exp.Goals as goal

pub returns-then-bits-lt1118699520 : goal.returns-then-bits-lt1118699520
unfolding E
returns-then-bits-lt1118699520 c = c.ordinary.ensures ∙ rw c.to_bits-bits.ensures

pub returns : goal.returns
unfolding E
returns c = c.seldom.ensures ∙ rw c.to_bits-bits.ensures
