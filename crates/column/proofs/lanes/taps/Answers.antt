-- After k taps each lane has the sum through k taps, by `lane_is` and `taps_more`.
use mathlib.Core.Path.{◌∙◌, ap}
use Prim.Native.Nat.{◌-◌}
use native.Mathlib.Omega.{arith}
use lib.ListN.{length}
use lib.Ieee.{nan}
use borrow.Author.Rules.{rules}
use Rattle.lists.proofs.Tab.{is_tab, at-tab, length-tab}
use Rattle.shape.proofs.Bounds.{kernel_le}
use Rattle.column.proofs.Indices.{reach}
use Rattle.column.proofs.Sums.{column_found, taps_none, taps_more, base_in, between_in, column_inside, outputs_fit, lane_is}
use Rattle.lists.specs.Tab.{at}
use Rattle.column.proofs.lanes.taps.Goals as goal

pub overflow_mul-base : goal.overflow_mul-base
overflow_mul-base g c =
    let pre = c.requires in
    omega (arith, base_in pre.0 pre.1 c.inputs_per_group-ipg.ensures, pre.0.range.ins_high)

pub overflow_mul-between : goal.overflow_mul-between
overflow_mul-between g c =
    let pre = c.requires in
    omega (arith, between_in pre.0 pre.1 c.inputs_per_group-ipg.ensures pre.2, kernel_le pre.0.range)

pub overflow_mul-w : goal.overflow_mul-w
overflow_mul-w g c =
    let pre = c.requires in
    omega (arith, between_in pre.0 pre.1 c.inputs_per_group-ipg.ensures pre.2, kernel_le pre.0.range)

pub loop-k-init : goal.loop-k-init
loop-k-init g c = (search rules, search rules, search rules, is_tab nan _ g.row.L _ (search rules) (λ i hi. taps_none _ _ _ _ _))

pub back-column-requires : goal.back-column-requires
back-column-requires g c =
    let pre = c.requires in
    let args = c.args in
    (pre.0.place_in, rw (c.steps_back-back.ensures, pre.0.ring_is) (reach args.filter.now.shape c.loop-k.k))

pub overflow_mul-column : goal.overflow_mul-column
overflow_mul-column g c =
    let pre = c.requires in
    let args = c.args in
    let inputs-per-group = c.inputs_per_group-ipg in
    let loop = c.loop-k in
    let f = pre.0 in
    let h = pre.1 in
    let e = inputs-per-group.ensures in
    let column = column_found _ _ _ _ c.steps_back-back.ensures c.back-column.ensures in
    omega (arith, column_inside f h e loop.k c.back-column.result column, base_in f h e, between_in f h e pre.2, kernel_le f.range, c.loop-k-test.true, f.range.kernel_high)

pub overflow_add-column : goal.overflow_add-column
overflow_add-column g c =
    let pre = c.requires in
    let args = c.args in
    let inputs-per-group = c.inputs_per_group-ipg in
    let loop = c.loop-k in
    let f = pre.0 in
    let h = pre.1 in
    let e = inputs-per-group.ensures in
    let column = column_found _ _ _ _ c.steps_back-back.ensures c.back-column.ensures in
    omega (arith, column_inside f h e loop.k c.back-column.result column, base_in f h e, between_in f h e pre.2, kernel_le f.range, c.loop-k-test.true, f.range.kernel_high)

pub overflow_add-w : goal.overflow_add-w
overflow_add-w g c =
    let pre = c.requires in
    let args = c.args in
    let inputs-per-group = c.inputs_per_group-ipg in
    let loop = c.loop-k in
    let f = pre.0 in
    let h = pre.1 in
    let e = inputs-per-group.ensures in
    let column = column_found _ _ _ _ c.steps_back-back.ensures c.back-column.ensures in
    omega (arith, column_inside f h e loop.k c.back-column.result column, base_in f h e, between_in f h e pre.2, kernel_le f.range, c.loop-k-test.true, f.range.kernel_high)

pub add_outputs-more-requires : goal.add_outputs-more-requires
add_outputs-more-requires g c =
    let pre = c.requires in
    let args = c.args in
    let inputs-per-group = c.inputs_per_group-ipg in
    let loop = c.loop-k in
    let f = pre.0 in
    let h = pre.1 in
    let e = inputs-per-group.ensures in
    let column = column_found _ _ _ _ c.steps_back-back.ensures c.back-column.ensures in
    (search rules, outputs_fit f h e loop.k c.back-column.result c.loop-k-test.true column (g.row.L - 1) (omega (arith, pre.2)))

pub loop-k-preserved : goal.loop-k-preserved
loop-k-preserved g c =
    let pre = c.requires in
    let args = c.args in
    let inputs-per-group = c.inputs_per_group-ipg in
    let loop = c.loop-k in
    let back = c.back-column in
    let f = pre.0 in
    let h = pre.1 in
    let e = inputs-per-group.ensures in
    let column = column_found _ _ _ _ c.steps_back-back.ensures back.ensures in
    let long = ap length c.add_outputs-more.ensures ∙ length-tab g.row.L _ in (
      search rules,
      search rules,
      long,
      is_tab nan _ g.row.L _ long (λ i hi.
          taps_more _ _ _ _ _ _ (at loop.r i) _ (rw loop.invariant.3 (at-tab nan g.row.L _ i hi))
          (rw (c.add_outputs-more.ensures, at-tab nan g.row.L _ i hi)
          (lane_is f h e args.history.now args.filter.now.weights.now loop.k back.result i (at loop.r i) column hi))),
    )
