-- As many lanes are as many outputs, by `lanes_are`.
use Prim.Native.Nat.{◌+◌}
use native.Mathlib.Omega.{arith}
use borrow.Author.Rules.{rules}
use Rattle.shape.proofs.Bounds.{kernel_le}
use Rattle.column.proofs.Indices.{bias_in, group_end}
use Rattle.column.proofs.OneColumn.{lanes_are}
use Rattle.column.proofs.some_outputs.Goals as goal

pub overflow_add-kernel_count : goal.overflow_add-kernel_count
overflow_add-kernel_count g c =
    let pre = c.requires in
    let f = pre.0 in
    omega (arith, group_end f.divided f.range c.args.g pre.1.group_in, pre.1.high, f.range.outs_high, c.kernel_count.ensures, kernel_le f.range)

pub start-begun-requires : goal.start-begun-requires
start-begun-requires g c =
    let pre = c.requires in
    let f = pre.0 in
    let end = group_end f.divided f.range c.args.g pre.1.group_in in
    (search rules, λ b. omega (arith, c.kernel_count.ensures, bias_in c.args.filter.now.shape (c.args.o + g.row.L) _ f.weights_is (omega (arith, end, pre.1.high)) b))

pub taps-sums-requires : goal.taps-sums-requires
taps-sums-requires g c =
    let pre = c.requires in
    let f = pre.0 in
    (omega (arith, group_end f.divided f.range c.args.g pre.1.group_in, pre.1.high, f.range.outs_high), (f, pre.1, pre.2))

pub overflow_mul-o : goal.overflow_mul-o
overflow_mul-o g c =
    let pre = c.requires in
    let f = pre.0 in
    omega (arith, pre.3 c.args.o (omega (arith, group_end f.divided f.range c.args.g pre.1.group_in, pre.1.high, pre.2)))

pub overflow_add-out : goal.overflow_add-out
overflow_add-out g c =
    let pre = c.requires in
    let f = pre.0 in
    omega (arith, pre.3 c.args.o (omega (arith, group_end f.divided f.range c.args.g pre.1.group_in, pre.1.high, pre.2)))

pub put-requires : goal.put-requires
put-requires g c =
    let pre = c.requires in
    let f = pre.0 in
    let end = group_end f.divided f.range c.args.g pre.1.group_in in
    (search rules, (pre.2, λ i hi. omega (arith, pre.3 (c.args.o + i) (omega (arith, end, pre.1.high, hi)))))

pub returns : goal.returns
returns g c =
    let args = c.args in
    lanes_are args.filter.now.shape args.filter.now.weights.now _ g.row.L _ _ args.o _ _ _ _ _ c.kernel_count.ensures c.start-begun.ensures c.taps-sums.ensures c.put.ensures
