-- `pattern_of` sums the field and the rounded digits, which fit.
use Rattle.exponent.proofs.Ranges.{shift_le}
use Rattle.exponent.specs.Exp.{nearest}
use mathlib.Core.Path.{◌≡◌}
use Prim.Native.Nat.{◌+◌, ◌-◌}
use native.Mathlib.Omega.{arith}
use Rattle.exponent.proofs.pattern_of.Goals as goal

pub overflow_add-result-2 : goal.overflow_add-result-2
overflow_add-result-2 c = omega (arith, shift_le c.args.size 38 (38 + c.args.down) (omega arith))

pub overflow_add-result-3 : goal.overflow_add-result-3
overflow_add-result-3 c = omega (arith, shift_le c.args.size 38 (38 + c.args.down) (omega arith))

pub returns : goal.returns
unfolding nearest
returns c = let e : 39 + c.args.down - 1 ≡ 38 + c.args.down = omega arith in rw e
