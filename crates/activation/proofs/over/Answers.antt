use Rattle.lists.proofs.Fill.{fill_none, fill_turn, fill_apart}
use mathlib.Core.Path.{◌≡◌, sym, ◌∙◌, ap}
use Prim.Native.Nat.{◌+◌}
use native.Mathlib.Omega.{arith}
use lib.Ieee.{nan}
use Rattle.activation.proofs.over.Goals as goal

pub loop-i-init : goal.loop-i-init
loop-i-init g c = λ h is. sym (fill_none _ _ _)

pub loop-i-preserved : goal.loop-i-preserved
loop-i-preserved g c = λ h is.
    let e = c.loop-i.invariant h is in
    let a = fill_apart nan _ _ (c.args.from + c.loop-i.i) _ _ _ e (omega arith) in
    fill_turn _ _ _ _ _ _ e (is _ _ c.f.ensures ∙ ap h a)

pub returns : goal.returns
returns g c = λ h is. let e : c.loop-i.i ≡ c.args.n = omega arith in rw e at (c.loop-i.invariant h is)
