-- `sums::lanes::add_outputs` meets its contract. The way of kernel 1 is taken where the step is 1.
use mathlib.Core.Path.{◌≡◌}
use native.Mathlib.Omega.{arith}
use borrow.Author.Rules.{rules}
use Rattle.sums.proofs.lanes.add_outputs.Goals as goal

pub add_next-requires : goal.add_next-requires
add_next-requires g c =
    let one : c.args.step ≡ 1 = omega arith in
    (search rules, rw one at c.requires)

pub returns-then-step-eq1 : goal.returns-then-step-eq1
returns-then-step-eq1 g c = rw c.if-step-eq1.true c.add_next.ensures
