-- One store more is one row of one place more.
use mathlib.Core.Path.{refl}
use borrow.Author.Rules.{rules}
use Rattle.lists.proofs.Rows.{rows_none, rows-cell}
use Rattle.history.proofs.fetch_column.Goals as goal

pub loop-j-init : goal.loop-j-init
loop-j-init c = (search rules, search rules, rows_none _ _ _ _ _)

pub loop-j-preserved : goal.loop-j-preserved
loop-j-preserved c = (search rules, search rules, rows-cell _ _ _ _ _ _ _ c.loop-j.invariant.2 refl)
