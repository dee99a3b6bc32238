-- `layer_record` reads each number at its place (Reading).
use native.Mathlib.Omega.{arith}
use Rattle.description.proofs.Reading.{layer_is}
use Rattle.description.proofs.records.layer_record.Goals as goal

pub overflow_add-at-9 : goal.overflow_add-at-9
overflow_add-at-9 c = omega (arith, c.requires, c.well_formed)

pub overflow_add-at-10 : goal.overflow_add-at-10
overflow_add-at-10 c = omega (arith, c.requires, c.well_formed)

pub overflow_add-at-11 : goal.overflow_add-at-11
overflow_add-at-11 c = omega (arith, c.requires, c.well_formed)

pub overflow_add-at-12 : goal.overflow_add-at-12
overflow_add-at-12 c = omega (arith, c.requires, c.well_formed)

pub overflow_add-at-13 : goal.overflow_add-at-13
overflow_add-at-13 c = omega (arith, c.requires, c.well_formed)

pub overflow_add-at-14 : goal.overflow_add-at-14
overflow_add-at-14 c = omega (arith, c.requires, c.well_formed)

pub overflow_add-at-15 : goal.overflow_add-at-15
overflow_add-at-15 c = omega (arith, c.requires, c.well_formed)

pub overflow_add-at-16 : goal.overflow_add-at-16
overflow_add-at-16 c = omega (arith, c.requires, c.well_formed)

pub number-requires-10 : goal.number-requires-10
number-requires-10 c = omega (arith, c.requires, c.well_formed)

pub overflow_add-at-17 : goal.overflow_add-at-17
overflow_add-at-17 c = omega (arith, c.requires, c.well_formed)

pub number-requires-11 : goal.number-requires-11
number-requires-11 c = omega (arith, c.requires, c.well_formed)

pub returns : goal.returns
returns c =
    let args = c.args in
    layer_is args.description.now args.l c.number.ensures c.number-2.ensures c.number-3.ensures c.number-4.ensures c.number-5.ensures c.number-6.ensures c.number-7.ensures c.number-8.ensures c.number-9.ensures c.number-10.ensures c.number-11.ensures c.read_mode-mode.ensures c.read_activation-primary.ensures c.read_activation-secondary.ensures c.read_sites-sites.ensures
