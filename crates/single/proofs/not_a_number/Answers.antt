use Rattle.std.proofs.Common.{refl}
use Rattle.std.specs.Float.Ieee.{div, of_bits}
use Rattle.single.proofs.not_a_number.Goals as goal

pub returns : goal.returns
unfolding div of_bits
returns c = refl
