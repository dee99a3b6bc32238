-- A site that is not played leaves all as it was.
use Rattle.layer.proofs.Past.{site_left_out}
use Rattle.layer.proofs.Asks.{not_played}
use mathlib.Core.Path.{sym, ◌∙◌}
use Rattle.layer.proofs.Layer.modulate.Goals as goal

pub returns-then-not-plays-clause-past : goal.returns-then-not-plays-clause-past
returns-then-not-plays-clause-past c =
    site_left_out c.requires.ready.layer_fits _ c.requires.behind.0.site_in c.requires.behind.1.past (not_played _ (sym c.if-not-plays.true ∙ c.plays.ensures))
