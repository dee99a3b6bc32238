-- One column is a block of one, by `column_is`; else `columns` says it.
use mathlib.Core.Path.{refl}
use Rattle.conv.proofs.Blocks.{column_is}
use Rattle.conv.proofs.part.Goals as goal

pub returns-then-n-eq1-clause-done : goal.returns-then-n-eq1-clause-done
returns-then-n-eq1-clause-done c =
    let e = c.if-n-eq1.true in
    rw e (column_is _ c.args.work.now _ _ _ (rw e at c.requires.0) refl c.column.ensures.pushed c.column.ensures.done)
