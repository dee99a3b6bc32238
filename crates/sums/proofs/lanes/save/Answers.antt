-- `sums::lanes::save` meets its contract. The others by `others-turn`, then the first by `first-last`.
use mathlib.Core.Path.{◌≡◌, sym}
use Prim.Native.Nat.{◌+◌, ◌-◌}
use native.Mathlib.Omega.{arith}
use borrow.Author.Rules.{rules}
use Rattle.lists.specs.Tab.{at}
use Rattle.lists.proofs.Fill.{fill_none}
use Rattle.sums.proofs.SideBySide.{others_turn, first_last}
use Rattle.sums.proofs.lanes.save.Goals as goal

pub loop-i-init : goal.loop-i-init
loop-i-init g c = (search rules, search rules, search rules, sym (fill_none _ _ _))

pub loop-i-preserved : goal.loop-i-preserved
loop-i-preserved g c =
    let loop = c.loop-i in
    let own : 1 + (loop.i - 1) ≡ loop.i = omega arith in
    (search rules, search rules, search rules, others_turn _ loop.i _ _ _ _ loop.invariant.0 loop.invariant.3 (rw own))

pub returns : goal.returns
returns g c =
    let args = c.args in
    let loop = c.loop-i in
    let e : loop.i ≡ g.row.L = omega (arith, c.requires.0) in
    first_last args.to g.row.L (at args.sums) _ args.work.now c.requires.0 c.requires.1 (rw e at loop.invariant.3)
