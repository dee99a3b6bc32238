use Rattle.std.proofs.Common.{◌∙◌, sym}
use Rattle.single.proofs.Nan.{nan_pattern, no_nan_pattern}
use Rattle.single.proofs.from_bits.Goals as goal

pub returns-then-bits-gt2139095040 : goal.returns-then-bits-gt2139095040
returns-then-bits-gt2139095040 c = c.not_a_number.ensures ∙ sym (nan_pattern _ c.if-bits-gt2139095040.true)

pub float_from_bits-result : goal.float_from_bits-result
float_from_bits-result c = no_nan_pattern _ c.if-bits-gt2139095040.false
