-- The loop's invariant: the rows passed are written (Lining).
use mathlib.Core.Path.{refl}
use Prim.Native.Nat.{◌*◌}
use native.Mathlib.Omega.{arith}
use borrow.Author.Rules.{rules}
use Rattle.lines.specs.Text.{column_of}
use Rattle.lines.proofs.Writing.{length_column, length_values}
use Rattle.lines.proofs.Lining.{column_more, column_none, room_left}
use Rattle.lines.proofs.Page.put_column.Goals as goal

pub loop-c-init : goal.loop-c-init
loop-c-init c = (search rules, refl, column_none _ _ _ _ _ (omega (arith, c.requires.0)))

pub put_number-requires : goal.put_number-requires
put_number-requires c =
    let done = column_of c.args.n c.args.t c.loop-c.c c.args.planar.now in
    room_left (9 * c.args.w) 9 c.requires.0 c.loop-c.invariant.2 (omega (arith, length_values done, length_column c.args.n c.args.t c.loop-c.c c.args.planar.now, c.loop-c-test.true))

pub loop-c-preserved : goal.loop-c-preserved
loop-c-preserved c = (search rules, search rules, column_more _ _ _ _ c.loop-c.invariant.2 c.put_number.ensures.wrote)
