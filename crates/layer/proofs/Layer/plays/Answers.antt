-- A site is played where it is there and applies: plays-is.
use mathlib.Core.Path.{refl}
use Rattle.description.specs.Parts.{site_groups}
use Rattle.layer.proofs.Asks.{plays_is}
use Rattle.layer.proofs.Layer.plays.Goals as goal

pub returns : goal.returns
returns c = plays_is _ _ _ _ c.blended-applies.ensures c.requires (site_groups c.args.self.now.own.now.sites c.args.i) refl
