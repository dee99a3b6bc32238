use Rattle.gating.specs.Joined.{blend}
use Rattle.lists.proofs.Fill.{fill_none, fill_turn, fill_apart}
use mathlib.Core.Path.{◌≡◌, sym}
use Prim.Native.Nat.{◌+◌}
use native.Mathlib.Omega.{arith}
use lib.Ieee.{nan}
use borrow.Author.Rules.{rules}
use Rattle.gating.proofs.blend_by.Goals as goal

pub loop-i-init : goal.loop-i-init
loop-i-init c = (search rules, search rules, search rules, search rules, search rules, sym (fill_none _ _ _))

pub loop-i-preserved : goal.loop-i-preserved
unfolding blend
loop-i-preserved c =
    let e = c.loop-i.invariant.5 in
    let p = fill_apart nan _ _ (c.args.out + c.loop-i.i) _ _ _ e (omega arith) in
    let q = fill_apart nan _ _ (c.args.s + c.loop-i.i) _ _ _ e (omega arith) in
    let r = fill_apart nan _ _ (c.args.a + c.loop-i.i) _ _ _ e (omega arith) in
    (search rules, search rules, search rules, search rules, search rules, fill_turn _ _ _ _ _ _ e (rw (p, q, r)))

pub returns : goal.returns
returns c = let e : c.loop-i.i ≡ c.args.n = omega arith in rw e at c.loop-i.invariant.5
