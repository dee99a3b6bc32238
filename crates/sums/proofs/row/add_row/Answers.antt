-- `sums::row::add_row` meets its contract. Sixteen columns a turn: read, summed and written back, by `row-turn`.
use mathlib.Core.Path.{◌≡◌, sym}
use Prim.Native.Nat.{◌*◌}
use native.Mathlib.Omega.{arith}
use borrow.Author.Rules.{rules}
use Rattle.sums.proofs.SideBySide.{tile_fits, row_turn}
use Rattle.lists.proofs.Fill.{fill_none}
use Rattle.sums.proofs.row.add_row.Goals as goal

pub loop-i-init : goal.loop-i-init
loop-i-init c = (search rules, search rules, search rules, c.requires, sym (fill_none _ _ _))

pub overflow_mul-t : goal.overflow_mul-t
overflow_mul-t c =
    let loop = c.loop-i in
    omega (arith, loop.invariant.2, loop.invariant.3.sums_in, loop.invariant.1, c.loop-i-test.true)

pub overflow_add-to : goal.overflow_add-to
overflow_add-to c =
    let loop = c.loop-i in
    omega (arith, loop.invariant.2, loop.invariant.3.sums_in, loop.invariant.1, c.loop-i-test.true)

pub load-sums-requires : goal.load-sums-requires
load-sums-requires c =
    let loop = c.loop-i in
    omega (arith, loop.invariant.2, loop.invariant.3.sums_in, loop.invariant.1, c.loop-i-test.true)

pub overflow_add-from : goal.overflow_add-from
overflow_add-from c =
    let loop = c.loop-i in
    let loop-test = c.loop-i-test in
    omega (arith, loop.invariant.3.inputs.inputs_in 0 loop.invariant.3.some, loop.invariant.1, loop-test.true)

pub add_inputs-more-requires : goal.add_inputs-more-requires
add_inputs-more-requires c =
    let loop = c.loop-i in
    let loop-test = c.loop-i-test in
    tile_fits loop.i _ loop.invariant.3 loop-test.true loop.invariant.2

pub overflow_add-to-in-loop-i : goal.overflow_add-to-in-loop-i
overflow_add-to-in-loop-i c =
    let loop = c.loop-i in
    let loop-test = c.loop-i-test in
    omega (arith, loop.invariant.2, loop.invariant.3.sums_in, loop.invariant.1, loop-test.true)

pub save-requires : goal.save-requires
save-requires c =
    let loop = c.loop-i in
    let loop-test = c.loop-i-test in
    omega (arith, loop.invariant.2, loop.invariant.3.sums_in, loop.invariant.1, loop-test.true)

pub loop-i-preserved : goal.loop-i-preserved
loop-i-preserved c =
    let args = c.args in
    let loop = c.loop-i in
    let loop-test = c.loop-i-test in
    let load = c.load-sums in
    let add-inputs = c.add_inputs-more in
    let save = c.save in (
      search rules,
      search rules,
      omega (arith, save.auto.work, loop.invariant.2),
      loop.invariant.3,
      row_turn args.weights.now args.work.now loop.work _ _ _ _ _ _ _ _ _ _ loop.i loop.invariant.3 loop-test.true loop.invariant.4 load.ensures add-inputs.ensures save.ensures,
    )

pub returns : goal.returns
returns c =
    let args = c.args in
    let loop = c.loop-i in
    let e : loop.i * 16 ≡ args.n = omega (arith, loop.invariant.3.whole) in rw e at loop.invariant.4
