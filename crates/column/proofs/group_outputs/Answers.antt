-- A stretch of outputs more a turn, by `outputs_turn`.
use mathlib.Core.Path.{sym}
use native.Mathlib.Omega.{arith}
use borrow.Author.Rules.{rules}
use Rattle.lists.proofs.Rows.{rows_none}
use Rattle.column.proofs.Indices.{group_end}
use Rattle.column.proofs.OneColumn.{outputs_turn}
use Rattle.column.proofs.group_outputs.Goals as goal

pub overflow_mul-first : goal.overflow_mul-first
overflow_mul-first c =
    let pre = c.requires in
    let args = c.args in
    let e = c.outputs_per_group-opg.ensures in
    let d = pre.0.divided in
    let r = pre.0.range in
    let end = rw (sym e) at (group_end d r args.g pre.1) in
    omega (arith, end, r.outs_high)

pub loop-i-init : goal.loop-i-init
loop-i-init c = (search rules, search rules, rows_none _ _ _ _ _)

pub overflow_add-first : goal.overflow_add-first
overflow_add-first c =
    let pre = c.requires in
    let args = c.args in
    let outputs-per-group = c.outputs_per_group-opg in
    let e = outputs-per-group.ensures in
    let d = pre.0.divided in
    let r = pre.0.range in
    let end = rw (sym e) at (group_end d r args.g pre.1) in
    omega (arith, end, r.outs_high, c.loop-i-test.true)

pub loop-i-preserved : goal.loop-i-preserved
loop-i-preserved c =
    let args = c.args in
    let loop = c.loop-i in
    let next = c.next_outputs-i in (
      omega (arith, next.ensures.taken.1, c.loop-i-test.true),
      omega (arith, next.auto.work, loop.invariant.1),
      outputs_turn args.filter.now.shape args.filter.now.weights.now _ args.work.now loop.work _ _ _ _ loop.i next.result loop.invariant.2 next.ensures.done,
    )
