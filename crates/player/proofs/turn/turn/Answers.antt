-- What was read is no more than was asked for, so the whole columns are no more than the block (Room).
use Rattle.std.proofs.Common.{◌≤◌, ◌*◌, arith}
use Rattle.std.proofs.Math.ListN.{length-append, length-replicate, length-take}
use Rattle.wna.specs.File.{width_of}
use Rattle.player.proofs.Room.{bytes_room, on_err, partly, ready_on, whole_most, whole_there}
use Rattle.player.proofs.turn.turn.Goals as goal

pub print_columns-requires-clause-ready : goal.print_columns-requires-clause-ready
print_columns-requires-clause-ready g c =
    let a = c.args.model.array in
    let n = c.args.n in
    let within : c.in_ok-got.got ≤ 4 * (n * width_of a) = omega (arith, c.in_ok-got.ensures.bound.0, simp (length-take, length-replicate) at c.read_full.auto.buf, bytes_room a n c.requires.suits.fits) in
    let most = whole_most (width_of a) n c.in_ok-got.got (omega (arith, c.requires.suits.fits.input.some)) within c.whole_columns-whole.ensures in
    ready_on c.requires most c.requires.heard (omega (arith, most, c.requires.last)) c.requires.scratch_room c.requires.text_room

pub print_columns-requires-clause-in_bounds : goal.print_columns-requires-clause-in_bounds
print_columns-requires-clause-in_bounds g c =
    let there = whole_there (width_of c.args.model.array) c.in_ok-got.got c.whole_columns-whole.ensures in
    simp (length-take, length-append) (omega (arith, there, c.in_ok-got.ensures.bound.0))

pub returns-in_err-print_columns-clause-err : goal.returns-in_err-print_columns-clause-err
returns-in_err-print_columns-clause-err g c =
    let a = c.args.model.array in
    let n = c.args.n in
    let within : c.in_ok-got.got ≤ 4 * (n * width_of a) = omega (arith, c.in_ok-got.ensures.bound.0, simp (length-take, length-replicate) at c.read_full.auto.buf, bytes_room a n c.requires.suits.fits) in
    let most = whole_most (width_of a) n c.in_ok-got.got (omega (arith, c.requires.suits.fits.input.some)) within c.whole_columns-whole.ensures in
    on_err _ (partly _ most c.print_columns.ensures.heard)

pub returns-in_ok-print_columns-clause-heard : goal.returns-in_ok-print_columns-clause-heard
returns-in_ok-print_columns-clause-heard g c =
    let a = c.args.model.array in
    let n = c.args.n in
    let within : c.in_ok-got.got ≤ 4 * (n * width_of a) = omega (arith, c.in_ok-got.ensures.bound.0, simp (length-take, length-replicate) at c.read_full.auto.buf, bytes_room a n c.requires.suits.fits) in
    (whole_most (width_of a) n c.in_ok-got.got (omega (arith, c.requires.suits.fits.input.some)) within c.whole_columns-whole.ensures, c.print_columns.ensures.heard)
