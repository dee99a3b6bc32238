-- `ordinary` is E below 87: the field is not negative, nothing is shifted out, and the pattern stays below the infinity's.
use lib.Ieee.{of_bits, binary32}
use Rattle.single.proofs.Nan.{no_nan_pattern}
use Rattle.exponent.proofs.Rounding.{e_back, q_fits, q_back, q_non_neg, q_lt, r_lt, exp_is}
use mathlib.Core.Path.{sym, ◌∙◌, ap}
use native.Mathlib.Omega.{arith}
use borrow.Author.Rules.{rules}
use Rattle.exponent.proofs.ordinary.Goals as goal

pub overflow_add-q : goal.overflow_add-q
overflow_add-q c =
    let b = c.args.bits in
    let is = c.raised_of-p.ensures in
    let h = c.requires in
    rw (e_back b is (omega arith)) (q_fits b is (omega arith))

pub overflow_cast-q : goal.overflow_cast-q
overflow_cast-q c =
    let b = c.args.bits in
    let is = c.raised_of-p.ensures in
    let h = c.requires in
    rw (e_back b is (omega arith), q_back b is (omega arith)) (q_non_neg b is h, record { fits = omega (arith, q_lt b is h) })

pub pattern_of-requires : goal.pattern_of-requires
pattern_of-requires c =
    let b = c.args.bits in
    let is = c.raised_of-p.ensures in
    let h = c.requires in
    rw (e_back b is (omega arith), q_back b is (omega arith)) (omega (arith, q_lt b is h), search rules)

pub overflow_cast-result : goal.overflow_cast-result
overflow_cast-result c =
    let b = c.args.bits in
    let is = c.raised_of-p.ensures in
    let h = c.requires in
    let e = rw (e_back b is (omega arith), q_back b is (omega arith)) at c.pattern_of.ensures in
    record { fits = omega (arith, r_lt b is h) }

pub float_from_bits-result : goal.float_from_bits-result
float_from_bits-result c =
    let b = c.args.bits in
    let is = c.raised_of-p.ensures in
    let h = c.requires in
    let e = rw (e_back b is (omega arith), q_back b is (omega arith)) at c.pattern_of.ensures in
    no_nan_pattern _ (omega (arith, r_lt b is h))

pub returns : goal.returns
returns c =
    let b = c.args.bits in
    let is = c.raised_of-p.ensures in
    let h = c.requires in
    ap (of_bits binary32) (rw (e_back b is (omega arith), q_back b is (omega arith)) at c.pattern_of.ensures ∙ sym (exp_is b is h))
