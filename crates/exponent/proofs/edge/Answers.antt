-- `edge` is E between the guards: the code's two positive parts are the definition's, and the last step its min.
use lib.Ieee.{of_bits, binary32}
use Rattle.single.proofs.Nan.{no_nan_pattern}
use Rattle.exponent.proofs.Rounding.{e_back, q_fits, q_back, minus_fits, minus_back, up_small, down_small, edge_is}
use mathlib.Core.Path.{sym, ◌∙◌, ap}
use native.Mathlib.Omega.{arith}
use Rattle.exponent.proofs.edge.Goals as goal

pub overflow_add-q : goal.overflow_add-q
overflow_add-q c =
    let b = c.args.bits in
    let is = c.raised_of-p.ensures in
    let h = c.requires in
    rw (e_back b is h) (q_fits b is h)

pub overflow_sub-q : goal.overflow_sub-q
overflow_sub-q c =
    let b = c.args.bits in
    let is = c.raised_of-p.ensures in
    let h = c.requires in
    rw (e_back b is h, q_back b is h) (minus_fits b is h)

pub pattern_of-r-requires : goal.pattern_of-r-requires
pattern_of-r-requires c =
    let b = c.args.bits in
    let is = c.raised_of-p.ensures in
    let h = c.requires in
    let up = rw (e_back b is h, q_back b is h) at c.positive_of.ensures in
    let down = rw (e_back b is h, q_back b is h, minus_back b is h) at c.positive_of-2.ensures in
    (omega (arith, up_small b is h), omega (arith, down_small b is h))

pub float_from_bits-result : goal.float_from_bits-result
float_from_bits-result c = no_nan_pattern _ (omega (arith, c.min.ensures))

pub returns : goal.returns
returns c =
    let b = c.args.bits in
    let is = c.raised_of-p.ensures in
    let h = c.requires in
    let up = rw (e_back b is h, q_back b is h) at c.positive_of.ensures in
    let down = rw (e_back b is h, q_back b is h, minus_back b is h) at c.positive_of-2.ensures in
    ap (of_bits binary32) (c.min.ensures ∙ sym (edge_is b is h c.positive_of.result c.positive_of-2.result c.pattern_of-r.result up down c.pattern_of-r.ensures))
