-- `core` picks slot k of the first four by its number, the last since k is below 4.
use mathlib.Core.Path.{◌≡◌}
use Rattle.description.specs.Parts.{part_of, slots_of}
use Rattle.description.proofs.Reading.{past_zero, past_it, only}
use Rattle.description.proofs.parts.core.Goals as goal

pub returns-in-0 : goal.returns-in-0
unfolding part_of slots_of
returns-in-0 c = rw (c.in-0.is, c.conv.ensures)

pub returns-in-1 : goal.returns-in-1
unfolding part_of slots_of
returns-in-1 c = rw (c.in-1.is, c.mixin.ensures)

pub returns-in-2 : goal.returns-in-2
unfolding part_of slots_of
returns-in-2 c = rw (c.in-2.is, c.layer1x1.ensures)

pub returns-in_default : goal.returns-in_default
unfolding part_of slots_of
returns-in_default c =
    let three : c.args.k ≡ 3 = only (past_it 2 (past_it 1 (past_zero c.in_default.in_default-own.rest.0.0.1) c.in_default.in_default-own.rest.0.1) c.in_default.in_default-own.rest.1) c.requires.k_bound in
    rw (three, c.head1x1.ensures)
