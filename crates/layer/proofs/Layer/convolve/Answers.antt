-- What the slot asks and does is play's; an absent slot passes its turn.
use Rattle.layer.proofs.Past.{conv_absent, conv-past}
use Rattle.layer.proofs.Asks.{conv_fits}
use mathlib.Core.Path.{sym, ◌∙◌}
use native.Mathlib.Omega.{arith}
use Rattle.layer.proofs.Layer.convolve.Goals as goal

pub returns-in_default-clause-past : goal.returns-in_default-clause-past
returns-in_default-clause-past c = conv_absent c.requires.ready.layer_fits _ c.requires.k_bound.0 (sym c.core.ensures ∙ c.in_default.is)

pub play-requires : goal.play-requires
play-requires c =
    let e = c.place-at.ensures ∙ c.requires.ready.slots_of.is _ (omega (arith, c.requires.k_bound.0)) in
    rw e (conv_fits c.requires.ready.layer_fits _ c.requires.k_bound.0 _ (sym c.core.ensures ∙ c.in-Some.is) _ _ c.requires.k_bound.1 c.requires.k_bound.2 c.requires.k_bound.3)

pub returns-clause-past : goal.returns-clause-past
returns-clause-past c =
    let e = c.place-at.ensures ∙ c.requires.ready.slots_of.is _ (omega (arith, c.requires.k_bound.0)) in
    conv-past c.requires.ready.layer_fits _ c.requires.k_bound.0 c.requires.k_bound.1.past _ (sym c.core.ensures ∙ c.in-Some.is) (rw e at c.play.ensures.played)
