-- `tanh` is Tanh: two comparisons part the ways, and each is Tanh of the pattern, by proofs/Guards.antt.
use mathlib.Core.Path.{sym, ◌∙◌, subst}
use native.Mathlib.Omega.{arith}
use lib.Dec.{T}
use Rattle.single.proofs.Nan.{no_nan_pattern}
use Rattle.tangent.specs.Tanh.{Tanh}
use Rattle.tangent.proofs.Guards.{small_is, at-between, between_le}
use Rattle.tangent.proofs.tanh.Goals as goal

pub returns-then-a-le956301312 : goal.returns-then-a-le956301312
returns-then-a-le956301312 c = sym (small_is c.args.x (subst T (sym c.well_formed.0.1) tt) (rw c.to_bits-b.ensures at c.if-a-le956301312.true))

pub returns-then-a-ge1092616192 : goal.returns-then-a-ge1092616192
unfolding Tanh
returns-then-a-ge1092616192 c = c.seldom.ensures ∙ rw c.to_bits-b.ensures

pub overflow_add-result : goal.overflow_add-result
overflow_add-result c = record { fits = omega (arith, c.between_of.ensures, between_le _ c.if-a-le956301312.false (omega arith)) }

pub float_from_bits-result : goal.float_from_bits-result
float_from_bits-result c = no_nan_pattern _ (omega (arith, c.between_of.ensures, between_le _ c.if-a-le956301312.false (omega arith)))

pub returns : goal.returns
unfolding Tanh
returns c = rw (c.between_of.ensures, ← at-between c.to_bits-b.result c.if-a-le956301312.false (omega arith), c.to_bits-b.ensures)
