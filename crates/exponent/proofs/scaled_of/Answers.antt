-- `scaled_of` is the definition's signed number: the factor is 1 or -1 by the pattern's sign.
use lib.Dec.{ltb}
use Rattle.exponent.proofs.Signed.{signed, back, factor_fits, signed_is, mag_signed}
use lib.IntN.{pos}
use Rattle.exponent.specs.Exp.{scaled}
use Rattle.exponent.proofs.Ranges.{magnitude-between}
use mathlib.Core.Path.{◌∙◌}
use Prim.Native.Nat.{◌/◌}
use native.Mathlib.Omega.{arith}
use Rattle.exponent.proofs.scaled_of.Goals as goal

pub overflow_mul-result : goal.overflow_mul-result
overflow_mul-result c = rw (back (pos (c.args.bits / 2147483648)) (omega arith)) (record { sfits = omega arith })

pub overflow_sub-result : goal.overflow_sub-result
overflow_sub-result c = factor_fits (c.args.bits / 2147483648) (omega arith)

pub overflow_cast-result : goal.overflow_cast-result
overflow_cast-result c =
    let b = c.args.bits in
    let u = c.magnitude_of.result in
    let e = c.magnitude_of.ensures in
    let s = magnitude-between b c.requires in
    record { sfits = omega arith }

pub overflow_mul-result-2 : goal.overflow_mul-result-2
overflow_mul-result-2 c =
    let b = c.args.bits in
    let u = c.magnitude_of.result in
    let e = c.magnitude_of.ensures in
    let s = magnitude-between b c.requires in
    rw (signed_is b u c.ranges.bits.fits (omega arith)) (record { sfits = omega (arith, mag_signed (ltb b 2147483648) u) })

pub returns : goal.returns
unfolding scaled signed
returns c =
    let b = c.args.bits in
    let u = c.magnitude_of.result in
    let e = c.magnitude_of.ensures in
    let s = magnitude-between b c.requires in
    rw (signed_is b u c.ranges.bits.fits (omega arith))
    (back (signed (ltb b 2147483648) u) (omega (arith, mag_signed (ltb b 2147483648) u)) ∙ rw e)
