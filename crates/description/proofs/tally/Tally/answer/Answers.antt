-- `answer` tells 3, 4, 5 or the sizes, with the head rechannel as the last part.
use mathlib.Core.Path.{◌∙◌, ap}
use native.Mathlib.Omega.{arith}
use Rattle.description.specs.Tally.{answer_at, answer_of}
use Rattle.description.proofs.Passing.{sound, too_many}
use Rattle.description.proofs.Slots.{head_rechannel_fits}
use Rattle.description.proofs.Totals.{low_on}
use Rattle.description.proofs.tally.Tally.answer.Goals as goal

pub past-place-requires : goal.past-place-requires
past-place-requires c = record { low = low_on c.requires.low_tally.place (omega arith); fits = rw c.head_rechannel.ensures (head_rechannel_fits c.requires.array_ranges) }

pub returns-then-counted : goal.returns-then-counted
unfolding answer_of answer_at
returns-then-counted c = rw c.if-counted.true

pub returns-then-unmatched : goal.returns-then-unmatched
unfolding answer_of answer_at
returns-then-unmatched c = rw (c.if-counted.false, c.if-unmatched.true)

pub returns-then-place : goal.returns-then-place
unfolding answer_of
returns-then-place c =
    let args = c.args in
    let past = c.past-place in
    too_many args.self past.result c.if-counted.false c.if-unmatched.false c.if-place.true ∙ ap (answer_at args.self) (rw c.head_rechannel.ensures at past.ensures)

pub returns : goal.returns
unfolding answer_of
returns c =
    let args = c.args in
    let past = c.past-place in
    sound args.self past.result c.if-counted.false c.if-unmatched.false c.if-place.false ∙ ap (answer_at args.self) (rw c.head_rechannel.ensures at past.ensures)
