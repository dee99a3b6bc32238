-- `magnitude_of` is the definition's magnitude: a shift by 63 in place of a longer one leaves the same, nothing.
use Rattle.exponent.specs.Exp.{magnitude}
use Rattle.exponent.proofs.Ranges.{shift_up_to}
use native.Mathlib.Omega.{arith}
use Rattle.exponent.proofs.magnitude_of.Goals as goal

pub returns : goal.returns
unfolding magnitude
returns c = rw c.min.ensures (shift_up_to _ _ (omega arith))
