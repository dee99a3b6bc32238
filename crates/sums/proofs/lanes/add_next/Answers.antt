-- `sums::lanes::add_next` meets its contract. The first inputs are summed by fours; after j inputs each lane has the sum of j products, by `input_more`.
use mathlib.Core.Path.{◌≡◌, ◌∙◌, ap}
use native.Mathlib.Omega.{arith}
use lib.ListN.{length}
use borrow.Author.Rules.{rules}
use Rattle.lists.proofs.Tab.{length-tab}
use Rattle.sums.proofs.SideBySide.{input_more, lanes_count}
use Rattle.lists.specs.Tab.{at}
use Rattle.sums.proofs.lanes.add_next.Goals as goal

pub fours_next-r-requires : goal.fours_next-r-requires
fours_next-r-requires g c =
    let all = c.requires in (
      search rules,
      record {
        values_in = grind (arith, all.values_in);
        weights_inside = λ i j hi hj. all.weights_inside i j hi (grind (arith, hj));
      },
    )

pub loop-j-init : goal.loop-j-init
loop-j-init g c = (search rules, ap length c.fours_next-r.ensures ∙ length-tab g.row.L _, c.requires, λ start e. e)

pub overflow_add-w : goal.overflow_add-w
overflow_add-w g c =
    let loop = c.loop-j in
    omega (arith, loop.invariant.2.values_in, loop.invariant.2.weights_inside 0 loop.j (omega arith) c.loop-j-test.true)

pub overflow_add-from : goal.overflow_add-from
overflow_add-from g c =
    let loop = c.loop-j in
    omega (arith, loop.invariant.2.values_in, loop.invariant.2.weights_inside 0 loop.j (omega arith) c.loop-j-test.true)

pub offset_bounds-values-from : goal.offset_bounds-values-from
offset_bounds-values-from g c =
    let loop = c.loop-j in
    omega (arith, loop.invariant.2.values_in, loop.invariant.2.weights_inside 0 loop.j (omega arith) c.loop-j-test.true)

pub bounds-values-from : goal.bounds-values-from
bounds-values-from g c =
    let loop = c.loop-j in
    omega (arith, loop.invariant.2.values_in, loop.invariant.2.weights_inside 0 loop.j (omega arith) c.loop-j-test.true)

pub add_input-more-requires : goal.add_input-more-requires
add_input-more-requires g c =
    let loop = c.loop-j in
    (search rules, λ i lt. omega (arith, loop.invariant.2.weights_inside i loop.j (omega arith) c.loop-j-test.true))

pub loop-j-preserved : goal.loop-j-preserved
loop-j-preserved g c =
    let loop = c.loop-j in (
      search rules,
      ap length c.add_input-more.ensures ∙ length-tab g.row.L _,
      loop.invariant.2,
      λ start e. input_more _ _ g.row.L loop.j _ _ _ _ _ _ _ loop.r _ _ (loop.invariant.3 start e)
          c.add_input-more.ensures (grind arith) (grind arith) (grind arith),
    )

pub returns : goal.returns
returns g c =
    let args = c.args in
    let loop = c.loop-j in
    let e : loop.j ≡ args.many = omega arith in
    rw e at (loop.invariant.3 (at args.sums) (lanes_count _ _ _ _ _ _ c.fours_next-r.ensures (grind arith)))
