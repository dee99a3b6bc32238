use Rattle.std.specs.Float.Ieee.{to_bits}
use Rattle.single.proofs.Nan.{differs, same}
use Rattle.single.proofs.to_bits.Goals as goal

pub returns-then-x : goal.returns-then-x
unfolding to_bits
returns-then-x c = rw (differs _ c.if-x.true)

pub float_to_bits-result : goal.float_to_bits-result
float_to_bits-result c = same _ c.if-x.false
