-- `split` gives the definition's two parts: the shift rounds down, and what is left of the number is the remainder.
use Prim.Native.Nat.{◌^◌}
use Rattle.exponent.proofs.Signed.{z_back, quotient_back, by_is, by_back, product_fits, product_back, rest_is, rest_back, remainder_fits, power_small, shifted, parts_split}
use lib.Pow.{pow_pos}
use native.Mathlib.Omega.{arith}
use Rattle.exponent.proofs.split.Goals as goal

pub overflow_cast-by-2 : goal.overflow_cast-by-2
overflow_cast-by-2 c =
    let z = c.args.whole in
    let k = c.args.bits in
    let s = c.requires.0 in
    let l = c.requires.1 in
    rw (by_is z k s l) (record { sfits = omega (arith, power_small z k s l) })

pub overflow_mul-rest : goal.overflow_mul-rest
overflow_mul-rest c =
    let z = c.args.whole in
    let k = c.args.bits in
    let s = c.requires.0 in
    let l = c.requires.1 in
    rw (z_back z k s l, quotient_back z k s l, by_is z k s l, by_back z k s l) (product_fits z k s l)

pub overflow_sub-rest : goal.overflow_sub-rest
overflow_sub-rest c =
    let z = c.args.whole in
    let k = c.args.bits in
    let s = c.requires.0 in
    let l = c.requires.1 in
    rw (z_back z k s l, quotient_back z k s l, by_is z k s l, by_back z k s l, product_back z k s l, rest_is z k s l) (remainder_fits z k s l)

pub overflow_cast-result : goal.overflow_cast-result
overflow_cast-result c =
    let z = c.args.whole in
    let k = c.args.bits in
    let s = c.requires.0 in
    let l = c.requires.1 in
    rw (z_back z k s l, quotient_back z k s l, by_is z k s l, by_back z k s l, product_back z k s l, rest_is z k s l, rest_back z k s l)
    (tt, record { fits = omega (arith, (remainder_fits z k s l).sfits) })

pub returns : goal.returns
returns c =
    let z = c.args.whole in
    let k = c.args.bits in
    let s = c.requires.0 in
    let l = c.requires.1 in
    rw (z_back z k s l, quotient_back z k s l, by_is z k s l, by_back z k s l, product_back z k s l, rest_is z k s l, rest_back z k s l, shifted) (parts_split z (2 ^ k) (pow_pos k))
