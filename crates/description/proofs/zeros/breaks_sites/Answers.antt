-- `breaks_sites` walks the sites. The loop's invariant: the flag says whether a site passed is absent with its bit set.
use Rattle.std.proofs.Common.{rules, refl, ◌≡◌, ◌∙◌, ap, ℕ, ◌+◌, ◌-◌, get_or, take, drop}
use Rattle.std.proofs.lemmas.List.{get_or-drop, get_or-take}
use native.Mathlib.Omega.{arith}
use Rattle.description.specs.Tests.{any_below}
use Rattle.description.specs.ZeroRules.{breaks_sites}
use Rattle.description.proofs.Folds.{any_more, any_end}
use Rattle.description.proofs.zeros.breaks_sites.Goals as goal

pub loop-i-init : goal.loop-i-init
unfolding any_below
loop-i-init c = (refl, refl)

pub loop-i-preserved : goal.loop-i-preserved
loop-i-preserved c =
    let d = c.args.description.now in
    let at = c.args.at in
    let i = c.loop-i.i in
    let place : at + 15 + i ≡ at + (15 + i) = omega arith in
    let group : get_or (take (at + 23 - (at + 15)) (drop (at + 15) d)) i 0 ≡ get_or d (at + (15 + i)) 0 =
    get_or-take (at + 23 - (at + 15)) (drop (at + 15) d) i 0 (omega arith) ∙ get_or-drop (at + 15) d i 0 ∙ ap (λ (p : ℕ). get_or d p 0) place in
    (search rules, rw group (any_more _ _ c.loop-i.invariant.1))

pub returns : goal.returns
unfolding breaks_sites
returns c = any_end _ _ _ c.loop-i.invariant.1 (omega arith)
