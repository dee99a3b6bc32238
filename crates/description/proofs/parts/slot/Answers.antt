-- `slot` picks slot k: one of the first four, or a site from 4 on (Slots).
use mathlib.Core.Path.{◌∙◌}
use native.Mathlib.Omega.{arith}
use Rattle.description.proofs.Slots.{slot_site}
use Rattle.description.proofs.parts.slot.Goals as goal

pub returns-then-k-lt4 : goal.returns-then-k-lt4
returns-then-k-lt4 c = c.core.ensures

pub returns : goal.returns
returns c = c.site.ensures ∙ slot_site _ _ _ (omega (arith, c.if-k-lt4.false)) c.requires.k_bound
