-- `between_of` is the definition's result between the guards, by proofs/Guards.antt; it fits, since it is at most the pattern of 1.
use native.Mathlib.Omega.{arith}
use Rattle.tangent.proofs.Guards.{y_le, between_le, between_is}
use Rattle.tangent.proofs.between_of.Goals as goal

pub overflow_add-y : goal.overflow_add-y
overflow_add-y c = record { fits = omega (arith, c.value_of-y.ensures, y_le c.args.a c.requires.0 c.requires.1) }

pub overflow_cast-result : goal.overflow_cast-result
overflow_cast-result c =
    let e = between_is c.args.a _ _ _ c.value_of-y.ensures c.min.ensures c.min-digits.ensures in
    record { fits = omega (arith, e, between_le c.args.a c.requires.0 c.requires.1) }

pub returns : goal.returns
returns c = between_is c.args.a _ _ _ c.value_of-y.ensures c.min.ensures c.min-digits.ensures
