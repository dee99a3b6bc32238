-- What the site asks and does is slot's, at the layer's places.
use mathlib.Core.Logic.{inl, inr}
use Rattle.layer.proofs.Past.{site_past}
use Rattle.layer.proofs.Asks.{applied_whole, site_fits, width_in}
use mathlib.Core.Path.{◌∙◌}
use native.Mathlib.Omega.{arith}
use Rattle.layer.proofs.Layer.play_site.Goals as goal

pub site-requires : goal.site-requires
site-requires c =
    let p = c.slot-part.ensures ∙ applied_whole _ _ _ c.requires.behind.0.site_in c.requires.played in
    let b = c.shifted-with_shift.ensures in
    let e = c.place-at.ensures ∙ c.requires.ready.slots_of.is _ (omega (arith, c.requires.behind.0.site_in)) in
    let w = c.requires.behind.2 in
    let room = c.requires.behind.1 in
    let f = c.requires.ready.layer_fits in
    let i = c.requires.behind.0.site_in in record {
      site_fits = rw (p, b, e, w) (site_fits f _ i _ room.end room.beside);
      site_fits_2 = elim c.requires.places [
        | inl q ↦ (rw (q, p, b, e, w) (site_fits f _ i _ room.end room.beside), inl (omega (arith, q)))
        | inr q ↦ (rw (p, b, e, w) (site_fits f _ i _ (omega (arith, q.0, q.1)) (omega (arith, q.0, q.1))), inr (rw w (omega (arith, width_in f _ i, q.0))))
      ];
    }

pub returns-clause-past : goal.returns-clause-past
returns-clause-past c =
    let p = c.slot-part.ensures ∙ applied_whole _ _ _ c.requires.behind.0.site_in c.requires.played in
    let b = c.shifted-with_shift.ensures in
    let e = c.place-at.ensures ∙ c.requires.ready.slots_of.is _ (omega (arith, c.requires.behind.0.site_in)) in
    let w = c.requires.behind.2 in
    let room = c.requires.behind.1 in
    site_past c.requires.ready.layer_fits _ c.requires.behind.0.site_in room.past (rw (p, b, e, w) at c.site.ensures.sited)
