-- `sums::lanes::fours_next` meets its contract. After q fours each lane has the sum of 4 q products, by `four_more`.
use mathlib.Core.Path.{◌≡◌, ◌∙◌, ap}
use Prim.Native.Nat.{◌*◌}
use native.Mathlib.Omega.{arith}
use lib.ListN.{length}
use borrow.Author.Rules.{rules}
use Rattle.lists.proofs.Tab.{length-tab}
use Rattle.sums.proofs.SideBySide.{lanes_none, four_more, four_in}
use Rattle.sums.proofs.lanes.fours_next.Goals as goal

pub loop-q-init : goal.loop-q-init
loop-q-init g c = (search rules, search rules, c.requires, lanes_none g.row.L _ _ (search rules))

pub overflow_mul-q : goal.overflow_mul-q
overflow_mul-q g c =
    let loop = c.loop-q in
    omega (arith, loop.invariant.2.values_in, loop.invariant.2.weights_inside 0 (loop.q * 4) (omega arith) (omega (arith, c.loop-q-test.true)))

pub overflow_add-from : goal.overflow_add-from
overflow_add-from g c =
    let loop = c.loop-q in
    omega (arith, loop.invariant.2.values_in, loop.invariant.2.weights_inside 0 (loop.q * 4) (omega arith) (omega (arith, c.loop-q-test.true)))

pub overflow_mul-q-in-loop-q : goal.overflow_mul-q-in-loop-q
overflow_mul-q-in-loop-q g c =
    let loop = c.loop-q in
    omega (arith, loop.invariant.2.values_in, loop.invariant.2.weights_inside 0 (loop.q * 4) (omega arith) (omega (arith, c.loop-q-test.true)))

pub overflow_add-w : goal.overflow_add-w
overflow_add-w g c =
    let loop = c.loop-q in
    omega (arith, loop.invariant.2.values_in, loop.invariant.2.weights_inside 0 (loop.q * 4) (omega arith) (omega (arith, c.loop-q-test.true)))

pub four_next-more-requires : goal.four_next-more-requires
four_next-more-requires g c = (search rules, four_in c.loop-q.invariant.2 c.loop-q-test.true (grind arith) (grind arith))

pub loop-q-preserved : goal.loop-q-preserved
loop-q-preserved g c =
    let loop = c.loop-q in (
      search rules,
      ap length c.four_next-more.ensures ∙ length-tab g.row.L _,
      loop.invariant.2,
      four_more _ _ g.row.L loop.q _ _ _ _ _ _ loop.r _ _ loop.invariant.3 c.four_next-more.ensures (grind arith) (grind arith) (grind arith),
    )

pub returns : goal.returns
returns g c =
    let loop = c.loop-q in
    let e : loop.q ≡ c.args.n = omega arith in rw e at loop.invariant.3
