-- `seldom` is Tanh from 10 up: each return is one rule of the definition, by proofs/Guards.antt.
use mathlib.Core.Path.{sym, ◌∙◌, ap}
use native.Mathlib.Omega.{arith}
use lib.Dec.{lit<}
use lib.Ieee.{binary32, of_bits}
use Rattle.single.proofs.Nan.{nan_pattern, no_nan_pattern}
use Rattle.tangent.proofs.Guards.{at_nan, at_high}
use Rattle.tangent.proofs.seldom.Goals as goal

pub returns-then-a-gt2139095040 : goal.returns-then-a-gt2139095040
returns-then-a-gt2139095040 c = c.not_a_number.ensures ∙ sym (nan_pattern 0x7fc0_0000 (lit< tt)) ∙ ap (of_bits binary32) (sym (at_nan c.args.b c.if-a-gt2139095040.true))

pub float_from_bits-result : goal.float_from_bits-result
float_from_bits-result c = no_nan_pattern _ (omega arith)

pub returns : goal.returns
returns c = ap (of_bits binary32) (sym (at_high c.args.b c.if-a-gt2139095040.false c.requires))
