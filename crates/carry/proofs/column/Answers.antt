use native.Mathlib.Nat.{add-zero}
use Rattle.lists.proofs.Rows.{rows_none, rows-cell}
use borrow.Author.Rules.{rules}
use Rattle.carry.proofs.column.Goals as goal

pub loop-c-init : goal.loop-c-init
loop-c-init c = (search rules, search rules, rows_none _ _ _ _ _)

pub loop-c-preserved : goal.loop-c-preserved
loop-c-preserved c = (search rules, search rules, rows-cell _ _ _ _ _ _ _ c.loop-c.invariant.2 (rw add-zero))
