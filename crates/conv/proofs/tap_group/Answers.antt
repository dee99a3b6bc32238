-- One output's row more a turn, by `group_turn`; where the row lies, by `first_row` and `row_bounds`.
use native.Mathlib.Omega.{arith}
use borrow.Author.Rules.{rules}
use Rattle.lists.proofs.Rows.{rows_none}
use Rattle.conv.proofs.Rows.{first_row, row_bounds, row_fits, group_turn}
use Rattle.conv.proofs.tap_group.Goals as goal

pub overflow_mul-row : goal.overflow_mul-row
overflow_mul-row c = let row = first_row c.requires.0 c.args.g _ c.requires.1 c.inputs_per_group-ipg.ensures in omega (arith, row.0, row.1)

pub overflow_mul-row-2 : goal.overflow_mul-row-2
overflow_mul-row-2 c = let row = first_row c.requires.0 c.args.g _ c.requires.1 c.inputs_per_group-ipg.ensures in omega (arith, row.0, row.1)

pub overflow_add-row : goal.overflow_add-row
overflow_add-row c = let row = first_row c.requires.0 c.args.g _ c.requires.1 c.inputs_per_group-ipg.ensures in omega (arith, row.0, row.1)

pub loop-i-init : goal.loop-i-init
loop-i-init c = (search rules, search rules, rows_none _ _ _ _ _)

pub overflow_mul-o : goal.overflow_mul-o
overflow_mul-o c =
    let b = row_bounds c.requires.0 c.args.g c.loop-i.i _ _ c.requires.1 c.loop-i-test.true c.inputs_per_group-ipg.ensures c.outputs_per_group-opg.ensures in
    omega (arith, b.group_high, b.sums_high, b.weight_high, b.first_high, c.loop-i-test.true)

pub overflow_add-o : goal.overflow_add-o
overflow_add-o c =
    let b = row_bounds c.requires.0 c.args.g c.loop-i.i _ _ c.requires.1 c.loop-i-test.true c.inputs_per_group-ipg.ensures c.outputs_per_group-opg.ensures in
    omega (arith, b.group_high, b.sums_high, b.weight_high, b.first_high, c.loop-i-test.true)

pub overflow_mul-o-in-loop-i : goal.overflow_mul-o-in-loop-i
overflow_mul-o-in-loop-i c =
    let b = row_bounds c.requires.0 c.args.g c.loop-i.i _ _ c.requires.1 c.loop-i-test.true c.inputs_per_group-ipg.ensures c.outputs_per_group-opg.ensures in
    omega (arith, b.group_high, b.sums_high, b.weight_high, b.first_high, c.loop-i-test.true)

pub overflow_add-out : goal.overflow_add-out
overflow_add-out c =
    let b = row_bounds c.requires.0 c.args.g c.loop-i.i _ _ c.requires.1 c.loop-i-test.true c.inputs_per_group-ipg.ensures c.outputs_per_group-opg.ensures in
    omega (arith, b.group_high, b.sums_high, b.weight_high, b.first_high, c.loop-i-test.true)

pub overflow_mul-o-in-loop-i-2 : goal.overflow_mul-o-in-loop-i-2
overflow_mul-o-in-loop-i-2 c =
    let b = row_bounds c.requires.0 c.args.g c.loop-i.i _ _ c.requires.1 c.loop-i-test.true c.inputs_per_group-ipg.ensures c.outputs_per_group-opg.ensures in
    omega (arith, b.group_high, b.sums_high, b.weight_high, b.first_high, c.loop-i-test.true)

pub overflow_mul-o-in-loop-i-3 : goal.overflow_mul-o-in-loop-i-3
overflow_mul-o-in-loop-i-3 c =
    let b = row_bounds c.requires.0 c.args.g c.loop-i.i _ _ c.requires.1 c.loop-i-test.true c.inputs_per_group-ipg.ensures c.outputs_per_group-opg.ensures in
    omega (arith, b.group_high, b.sums_high, b.weight_high, b.first_high, c.loop-i-test.true)

pub overflow_add-o-in-loop-i : goal.overflow_add-o-in-loop-i
overflow_add-o-in-loop-i c =
    let b = row_bounds c.requires.0 c.args.g c.loop-i.i _ _ c.requires.1 c.loop-i-test.true c.inputs_per_group-ipg.ensures c.outputs_per_group-opg.ensures in
    omega (arith, b.group_high, b.sums_high, b.weight_high, b.first_high, c.loop-i-test.true)

pub add_row-requires : goal.add_row-requires
add_row-requires c =
    row_fits c.requires.0 c.args.g c.loop-i.i _ _ _ c.requires.1 c.loop-i-test.true c.inputs_per_group-ipg.ensures c.outputs_per_group-opg.ensures c.loop-i.invariant.1

pub loop-i-preserved : goal.loop-i-preserved
loop-i-preserved c =
    let loop = c.loop-i in (
      search rules,
      omega (arith, c.add_row.auto.work, loop.invariant.1),
      group_turn c.requires.0 _ c.args.work.now loop.work _ c.args.g loop.i _ _ c.requires.1 c.loop-i-test.true c.inputs_per_group-ipg.ensures c.outputs_per_group-opg.ensures loop.invariant.2 c.add_row.ensures,
    )
