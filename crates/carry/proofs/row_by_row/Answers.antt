use Rattle.lists.proofs.Rows.{rows_none, rows_more}
use mathlib.Core.Path.{refl}
use native.Mathlib.Omega.{arith}
use borrow.Author.Rules.{rules}
use Rattle.carry.proofs.row_by_row.Goals as goal

pub loop-c-init : goal.loop-c-init
loop-c-init c = (search rules, search rules, rows_none _ _ _ _ _)

pub loop-c-preserved : goal.loop-c-preserved
loop-c-preserved c = (search rules, omega (arith, c.row.auto.dst), rows_more _ _ _ _ _ _ _ _ _ c.loop-c.invariant.2 c.row.ensures (λ t h. refl))
