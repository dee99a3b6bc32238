use Rattle.lists.proofs.Fill.{fill_none, fill_turn, fill_apart}
use mathlib.Core.Path.{sym}
use Prim.Native.Nat.{◌+◌}
use native.Mathlib.Omega.{arith}
use lib.Ieee.{nan}
use borrow.Author.Rules.{rules}
use Rattle.carry.proofs.add_to.Goals as goal

pub loop-i-init : goal.loop-i-init
loop-i-init c = (search rules, search rules, search rules, search rules, search rules, sym (fill_none _ _ _))

pub loop-i-preserved : goal.loop-i-preserved
loop-i-preserved c =
    let e = c.loop-i.invariant.5 in
    let a = fill_apart nan _ _ (c.args.to + c.loop-i.i) _ _ _ e (omega arith) in
    let b = fill_apart nan _ _ (c.args.from + c.loop-i.i) _ _ _ e (omega arith) in
    (search rules, search rules, search rules, search rules, search rules, fill_turn _ _ _ _ _ _ e (rw (a, b)))
