-- One of the first four slots ends where the next one starts: slot_next.
use Rattle.description.proofs.Slots.{slot_fits}
use Rattle.layer.proofs.Places.{slot_low, slot_next, low_more}
use mathlib.Core.Path.{◌∙◌}
use native.Mathlib.Omega.{arith}
use Rattle.layer.proofs.slots.past_core.Goals as goal

pub past-requires : goal.past-requires
past-requires c = record { low = rw c.requires.k_bound.1 (low_more 0xffff_ffff 0x100_0000_0000 (omega arith) (slot_low _ _ _ 0xffff_ffff _ c.requires.low)); fits = rw c.core.ensures (slot_fits c.requires.array_ranges c.requires.layer_ranges _) }

pub returns : goal.returns
returns c = c.past.ensures ∙ rw (c.requires.k_bound.1, c.core.ensures) (slot_next _ _ _ _ (omega (arith, c.requires.k_bound.0)))
