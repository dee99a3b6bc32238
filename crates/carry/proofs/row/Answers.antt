use Rattle.lists.proofs.Fill.{fill_none, fill_turn}
use mathlib.Core.Path.{◌≡◌, refl, sym}
use native.Mathlib.Omega.{arith}
use borrow.Author.Rules.{rules}
use Rattle.carry.proofs.row.Goals as goal

pub loop-t-init : goal.loop-t-init
loop-t-init c = (search rules, search rules, sym (fill_none _ _ _))

pub loop-t-preserved : goal.loop-t-preserved
loop-t-preserved c = (search rules, search rules, fill_turn _ _ _ _ _ _ c.loop-t.invariant.2 refl)

pub returns : goal.returns
returns c = let e : c.loop-t.t ≡ c.args.m = omega arith in rw e at c.loop-t.invariant.2
