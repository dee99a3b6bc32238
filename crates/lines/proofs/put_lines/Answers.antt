-- The loop's invariant: the lines of the columns passed, each within its share of the buffer.
use mathlib.Core.Path.{refl}
use Prim.Native.Nat.{◌+◌, ◌*◌}
use native.Mathlib.Omega.{arith}
use borrow.Author.Rules.{rules}
use Rattle.lists.proofs.Nums.{row_end, row_next}
use Rattle.lines.proofs.Lining.{as_long, line_fits, lines_none, lines_more}
use Rattle.lines.proofs.put_lines.Goals as goal

pub loop-t-init : goal.loop-t-init
loop-t-init c = (search rules, refl, omega arith, lines_none _ _ _)

pub put_line-requires-clause-t_lt_n : goal.put_line-requires-clause-t_lt_n
put_line-requires-clause-t_lt_n c =
    (c.loop-t-test.true, omega (arith, c.requires.n_bound.0, c.loop-t-test.true), omega (arith, row_end c.loop-t.t c.args.columns.count (9 * (c.args.columns.heads + c.args.columns.arrays) + 11) c.loop-t-test.true, as_long c.loop-t.invariant.3, c.loop-t.invariant.2, c.requires.n_bound.1))

pub loop-t-preserved : goal.loop-t-preserved
loop-t-preserved c =
    let fits = line_fits c.args.columns.count c.args.columns.heads c.args.columns.head.now c.args.columns.arrays c.args.columns.array.now c.loop-t.t (c.args.first + c.loop-t.t) (omega (arith, c.requires.n_bound.0, c.loop-t-test.true)) in
    (omega (arith, c.loop-t-test.true), search rules, omega (arith, fits, c.put_line.ensures.wrote.past, c.loop-t.invariant.2, row_next c.loop-t.t (9 * (c.args.columns.heads + c.args.columns.arrays) + 11)), lines_more _ _ _ c.loop-t.invariant.3 c.put_line.ensures.wrote)
