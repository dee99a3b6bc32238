-- `seldom` is E of any pattern: each return is one rule of the definition, by proofs/Guards.antt.
use lib.Dec.{lit<}
use Rattle.single.proofs.Nan.{nan_pattern}
use lib.Ieee.{of_bits, nan_bits, binary32}
use Rattle.exponent.proofs.Guards.{at_nan, at_high, at_low, at-positive, at_negative}
use mathlib.Core.Path.{sym, ◌∙◌, ap}
use native.Mathlib.Omega.{arith}
use Rattle.exponent.proofs.seldom.Goals as goal
use Rattle.exponent.proofs.seldom.Goals.{then-bits-lt2147483648+else-a-ge1118961664, else-bits-lt2147483648+else-a-ge1120927744}

pub returns-then-a-gt2139095040 : goal.returns-then-a-gt2139095040
returns-then-a-gt2139095040 c = c.not_a_number.ensures ∙ sym (nan_pattern 0x7fc0_0000 (lit< tt)) ∙ ap (of_bits binary32) (sym (at_nan c.args.bits c.if-a-gt2139095040.true))

pub float_from_bits-result : goal.float_from_bits-result
unfolding nan_bits
float_from_bits-result c = tt

pub returns-then-a-ge1118961664 : goal.returns-then-a-ge1118961664
returns-then-a-ge1118961664 c = ap (of_bits binary32) (sym (at_high c.args.bits c.if-a-gt2139095040.false c.if-bits-lt2147483648.true (omega arith)))

pub float_from_bits-result-then-a-ge1120927744 : goal.float_from_bits-result-then-a-ge1120927744
unfolding nan_bits
float_from_bits-result-then-a-ge1120927744 c = tt

pub returns-then-a-ge1120927744 : goal.returns-then-a-ge1120927744
returns-then-a-ge1120927744 c = ap (of_bits binary32) (sym (at_low c.args.bits c.if-a-gt2139095040.false c.if-bits-lt2147483648.false c.if-a-ge1120927744.true))

pub edge-requires : goal.edge-requires
edge-requires c = elim c.if-bits-lt2147483648.branch [ then-bits-lt2147483648+else-a-ge1118961664 w ↦ omega arith | else-bits-lt2147483648+else-a-ge1120927744 w ↦ omega arith ]

pub returns : goal.returns
returns c = c.edge.ensures ∙ ap (of_bits binary32) (sym (elim c.if-bits-lt2147483648.branch [ then-bits-lt2147483648+else-a-ge1118961664 w ↦ at-positive c.args.bits w.if-bits-lt2147483648.true (omega arith) | else-bits-lt2147483648+else-a-ge1120927744 w ↦ at_negative c.args.bits w.if-bits-lt2147483648.false w.if-a-ge1120927744.false ]))
