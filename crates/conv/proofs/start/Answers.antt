-- One row more a turn, by `start_turn`.
use Prim.Native.Nat.{◌+◌}
use native.Mathlib.Omega.{arith}
use borrow.Author.Rules.{rules}
use Rattle.lists.proofs.Rows.{rows_none}
use Rattle.shape.proofs.Bounds.{kernel_le}
use Rattle.column.proofs.Indices.{bias_in}
use Rattle.conv.proofs.Rows.{start_turn}
use Rattle.conv.proofs.start.Goals as goal

pub loop-o-init : goal.loop-o-init
loop-o-init c = (search rules, search rules, rows_none _ _ _ _ _)

pub overflow_add-count : goal.overflow_add-count
overflow_add-count c =
    let pre = c.requires in
    omega (arith, c.kernel_count-count.ensures, kernel_le pre.0, pre.0.outs_high, c.loop-o-test.true)

pub bias-b-requires : goal.bias-b-requires
bias-b-requires c =
    let args = c.args in
    let pre = c.requires in
    λ b. omega (arith, c.kernel_count-count.ensures, bias_in args.filter.now.shape (c.loop-o.o + 1) _ pre.2 (omega (arith, c.loop-o-test.true)) b)

pub loop-o-preserved : goal.loop-o-preserved
loop-o-preserved c =
    let args = c.args in
    let kernel-count = c.kernel_count-count in
    let loop = c.loop-o in
    let bias = c.bias-b in
    let flat = c.flat in (
      search rules,
      omega (arith, flat.auto.work, loop.invariant.1),
      start_turn args.filter.now.shape _ _ loop.work _ _ _ _ _ _ _ kernel-count.ensures loop.invariant.2 bias.ensures flat.ensures,
    )
