-- `sums::lanes::put_apart` meets its contract. One store more is one row of one place more.
use mathlib.Core.Path.{◌≡◌, refl}
use native.Mathlib.Omega.{arith}
use borrow.Author.Rules.{rules}
use Rattle.lists.proofs.Rows.{rows_none, rows-cell}
use Rattle.sums.proofs.lanes.put_apart.Goals as goal

pub loop-i-init : goal.loop-i-init
loop-i-init g c = (search rules, search rules, rows_none _ _ _ _ _)

pub offset_bounds-sums-i : goal.offset_bounds-sums-i
offset_bounds-sums-i g c =
    let loop = c.loop-i in
    omega (arith, c.requires loop.i c.loop-i-test.true, loop.invariant.1)

pub overflow_mul-work : goal.overflow_mul-work
overflow_mul-work g c =
    let loop = c.loop-i in
    omega (arith, c.requires loop.i c.loop-i-test.true, loop.invariant.1)

pub overflow_add-work : goal.overflow_add-work
overflow_add-work g c =
    let loop = c.loop-i in
    omega (arith, c.requires loop.i c.loop-i-test.true, loop.invariant.1)

pub offset_bounds-work-to : goal.offset_bounds-work-to
offset_bounds-work-to g c =
    let loop = c.loop-i in
    omega (arith, c.requires loop.i c.loop-i-test.true, loop.invariant.1)

pub bounds-work-to : goal.bounds-work-to
bounds-work-to g c =
    let loop = c.loop-i in
    omega (arith, c.requires loop.i c.loop-i-test.true, loop.invariant.1)

pub loop-i-preserved : goal.loop-i-preserved
loop-i-preserved g c = (search rules, search rules, rows-cell _ _ _ _ _ _ _ c.loop-i.invariant.2 refl)

pub returns : goal.returns
returns g c =
    let loop = c.loop-i in
    let e : loop.i ≡ g.row.L = omega arith in rw e at loop.invariant.2
