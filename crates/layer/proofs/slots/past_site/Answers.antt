-- An absent site takes no place; one that is there ends where the next slot starts: slot_next.
use Rattle.description.proofs.Slots.{slot_fits}
use Rattle.layer.proofs.Places.{slot_low, slot_next, low_more}
use Rattle.layer.proofs.Asks.{no_site, past-none}
use mathlib.Core.Path.{◌∙◌}
use native.Mathlib.Omega.{arith}
use Rattle.layer.proofs.slots.past_site.Goals as goal

pub returns-then-r-i-eq0 : goal.returns-then-r-i-eq0
returns-then-r-i-eq0 c =
    let i = c.requires.i_bound.0 in
    c.requires.i_bound.1 ∙ past-none _ _ _ c.args.i i (no_site _ _ c.args.i i c.if-r-i-eq0.true)

pub past-requires : goal.past-requires
past-requires c = record { low = rw c.requires.i_bound.1 (low_more 0xffff_ffff 0x100_0000_0000 (omega arith) (slot_low _ _ _ 0xffff_ffff _ c.requires.low)); fits = rw c.slot.ensures (slot_fits c.requires.array_ranges c.requires.layer_ranges _) }

pub returns : goal.returns
returns c = c.past.ensures ∙ rw (c.requires.i_bound.1, c.slot.ensures) (slot_next _ _ _ _ (omega (arith, c.requires.i_bound.0)))
