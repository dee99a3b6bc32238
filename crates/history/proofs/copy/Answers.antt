-- What is read lies apart from what was written.
use mathlib.Core.Path.{sym}
use Prim.Native.Nat.{◌+◌}
use native.Mathlib.Omega.{arith}
use lib.Ieee.{nan}
use borrow.Author.Rules.{rules}
use Rattle.lists.proofs.Fill.{fill_none, fill_turn, fill_apart}
use Rattle.history.proofs.copy.Goals as goal

pub loop-t-init : goal.loop-t-init
loop-t-init c = (search rules, search rules, search rules, search rules, search rules, sym (fill_none _ _ _))

pub loop-t-preserved : goal.loop-t-preserved
loop-t-preserved c =
    let args = c.args in
    let loop = c.loop-t in (
      search rules,
      search rules,
      search rules,
      search rules,
      search rules,
      fill_turn _ _ _ _ _ _ loop.invariant.5 (fill_apart nan _ _ (args.from + loop.t) _ _ _ loop.invariant.5 (omega arith)),
    )
