-- A single column is a block of one, by `one_is`; else `parts` says it.
use mathlib.Core.Path.{◌≡◌, refl}
use native.Mathlib.Omega.{arith}
use Rattle.conv.proofs.Cuts.{one_fits, one_is}
use Rattle.conv.proofs.conv.Goals as goal

-- said of the number, so that a test of another one is refused at what it lets through
pub column-requires : goal.column-requires
column-requires c =
    let one : c.args.block.columns ≡ 1 = omega arith in
    let f = one_fits c.args.filter.now.weights.now c.args.memory.now.history.now c.args.work.now (rw one at c.requires) refl in
    (f.parts, λ i hi. omega (arith, f.x_in i hi), λ o ho. omega (arith, f.out_in o ho))

pub returns-then-block-eq1-clause-done : goal.returns-then-block-eq1-clause-done
returns-then-block-eq1-clause-done c =
    let e = c.if-block-eq1.true in
    rw e (one_is c.args.filter.now.weights.now c.args.memory.now.history.now c.args.work.now (rw e at c.requires) refl _ _ c.column.ensures.pushed c.column.ensures.done)
