-- Each way out gives its record (Taken).
use mathlib.Core.Path.{sym, ◌∙◌}
use Rattle.refusal.proofs.PassedOn.{passed_on}
use Rattle.wna.proofs.Taken.{cut, wrong, low, crowded, opened}
use Rattle.wna.proofs.opening.take_description.Goals as goal

pub returns-then-bytes-numbers : goal.returns-then-bytes-numbers
returns-then-bytes-numbers c = cut c.args.numbers.now c.args.bytes.now c.args.block c.if-bytes-numbers.true

pub returns-in_err-sizes : goal.returns-in_err-sizes
returns-in_err-sizes c = rw (passed_on c.from_residual.result c.from_residual.ensures) (wrong c.args.numbers.now c.args.bytes.now c.args.block c.if-bytes-numbers.false c.unpack_numbers.ensures c.check.ensures c.in_err-sizes.was)

pub no_room-requires : goal.no_room-requires
no_room-requires c = (low c.args.numbers.now c.args.bytes.now c.args.block c.if-bytes-numbers.false c.unpack_numbers.ensures c.check.ensures c.in_ok-sizes.was, c.requires)

pub returns-then-no_room : goal.returns-then-no_room
returns-then-no_room c = crowded c.args.numbers.now c.args.bytes.now c.args.block c.if-bytes-numbers.false c.unpack_numbers.ensures c.check.ensures c.in_ok-sizes.was (sym c.no_room.ensures ∙ c.if-no_room.true)

pub returns : goal.returns
returns c = opened c.args.numbers.now c.args.bytes.now c.args.block c.if-bytes-numbers.false c.unpack_numbers.ensures c.check.ensures c.in_ok-sizes.was (sym c.no_room.ensures ∙ c.if-no_room.false)
