-- `power_of` is the definition's power: its products fit by proofs/Ranges.antt, and the steps are the same.
use Rattle.exponent.specs.Exp.{power}
use Rattle.exponent.proofs.Ranges.{product_lt, power_lt}
use native.Mathlib.Omega.{arith}
use Rattle.exponent.proofs.power_of.Goals as goal

pub overflow_mul-w : goal.overflow_mul-w
overflow_mul-w c = record { fits = omega (arith, product_lt c.args.f c.requires.1) }

pub overflow_add-result : goal.overflow_add-result
overflow_add-result c = record { fits = omega (arith, product_lt c.args.f c.requires.1) }

pub overflow_mul-result : goal.overflow_mul-result
unfolding power
overflow_mul-result c = rw c.entry_of.ensures (record { fits = omega (arith, power_lt c.args.j c.args.f c.requires.0 c.requires.1) })

pub returns : goal.returns
unfolding power
returns c = rw c.entry_of.ensures
