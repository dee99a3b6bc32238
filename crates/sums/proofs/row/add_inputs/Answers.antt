-- `sums::row::add_inputs` meets its contract. After j inputs each lane has the sum of j products, by `lanes-more`.
use mathlib.Core.Path.{◌≡◌, ◌∙◌, ap}
use native.Mathlib.Omega.{arith}
use lib.ListN.{length}
use borrow.Author.Rules.{rules}
use Rattle.lists.proofs.Tab.{length-tab}
use Rattle.sums.specs.Product.{product}
use Rattle.sums.proofs.SideBySide.{lanes_none, lanes_more}
use Rattle.sums.proofs.row.add_inputs.Goals as goal

pub loop-j-init : goal.loop-j-init
loop-j-init c = (search rules, search rules, c.requires, lanes_none 16 _ _ (search rules))

pub overflow_mul-j : goal.overflow_mul-j
overflow_mul-j c =
    let loop = c.loop-j in
    omega (arith, loop.invariant.2.inputs_in loop.j c.loop-j-test.true, loop.invariant.2.weights_inside loop.j c.loop-j-test.true)

pub overflow_add-from : goal.overflow_add-from
overflow_add-from c =
    let loop = c.loop-j in
    omega (arith, loop.invariant.2.inputs_in loop.j c.loop-j-test.true, loop.invariant.2.weights_inside loop.j c.loop-j-test.true)

pub overflow_mul-j-in-loop-j : goal.overflow_mul-j-in-loop-j
overflow_mul-j-in-loop-j c =
    let loop = c.loop-j in
    omega (arith, loop.invariant.2.inputs_in loop.j c.loop-j-test.true, loop.invariant.2.weights_inside loop.j c.loop-j-test.true)

pub overflow_add-w : goal.overflow_add-w
overflow_add-w c =
    let loop = c.loop-j in
    omega (arith, loop.invariant.2.inputs_in loop.j c.loop-j-test.true, loop.invariant.2.weights_inside loop.j c.loop-j-test.true)

pub offset_bounds-weights-w : goal.offset_bounds-weights-w
offset_bounds-weights-w c =
    let loop = c.loop-j in
    omega (arith, loop.invariant.2.inputs_in loop.j c.loop-j-test.true, loop.invariant.2.weights_inside loop.j c.loop-j-test.true)

pub bounds-weights-w : goal.bounds-weights-w
bounds-weights-w c =
    let loop = c.loop-j in
    let loop-test = c.loop-j-test in
    omega (arith, loop.invariant.2.inputs_in loop.j loop-test.true, loop.invariant.2.weights_inside loop.j loop-test.true)

pub add_input-more-requires : goal.add_input-more-requires
add_input-more-requires c =
    let loop = c.loop-j in
    loop.invariant.2.inputs_in loop.j c.loop-j-test.true

pub loop-j-preserved : goal.loop-j-preserved
unfolding product
loop-j-preserved c =
    let loop = c.loop-j in (
      search rules,
      ap length c.add_input-more.ensures ∙ length-tab 16 _,
      loop.invariant.2,
      lanes_more 16 loop.j _ _ loop.r _ loop.invariant.3 c.add_input-more.ensures,
    )

pub returns : goal.returns
returns c =
    let args = c.args in
    let loop = c.loop-j in
    let e : loop.j ≡ args.many = omega arith in rw e at loop.invariant.3
