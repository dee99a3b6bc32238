-- One row more, by `copy_turn`.
use native.Mathlib.Omega.{arith}
use borrow.Author.Rules.{rules}
use Rattle.history.proofs.Turns.{copy_turn}
use Rattle.lists.proofs.Rows.{rows_none}
use Rattle.history.proofs.copy_rows.Goals as goal

pub loop-c-init : goal.loop-c-init
loop-c-init c = (search rules, search rules, c.requires, rows_none _ _ _ _ _)

pub loop-c-preserved : goal.loop-c-preserved
loop-c-preserved c =
    let args = c.args in
    let loop = c.loop-c in
    let loop-test = c.loop-c-test in
    let copy = c.copy in (
      search rules,
      omega (arith, copy.auto.work, loop.invariant.1),
      loop.invariant.2,
      copy_turn _ _ _ _ _ _ _ args.work.now loop.work _ loop.invariant.2 loop-test.true loop.invariant.3 copy.ensures,
    )
