-- One store more fills one place more.
use mathlib.Core.Path.{refl, sym}
use borrow.Author.Rules.{rules}
use Rattle.lists.proofs.Fill.{fill_none, fill_turn}
use Rattle.history.proofs.store_apart.Goals as goal

pub loop-j-init : goal.loop-j-init
loop-j-init c = (search rules, search rules, sym (fill_none _ _ _))

pub loop-j-preserved : goal.loop-j-preserved
loop-j-preserved c = (search rules, search rules, fill_turn _ _ _ _ _ _ c.loop-j.invariant.2 refl)
