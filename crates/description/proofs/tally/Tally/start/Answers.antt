-- `start` is the tally before any layer: the rechannel is its one part.
use mathlib.Core.Path.{◌∙◌}
use Rattle.description.specs.Parts.{rechannel_of}
use Rattle.description.proofs.Passing.{origin_low, past_origin, start_is}
use Rattle.description.proofs.Slots.{rechannel_fits}
use Rattle.description.proofs.tally.Tally.start.Goals as goal

pub past-place-requires : goal.past-place-requires
past-place-requires c = record { low = origin_low _; fits = rw c.rechannel.ensures (rechannel_fits c.requires) }

pub returns : goal.returns
returns c =
    let args = c.args in
    start_is args.a (rw c.rechannel.ensures at c.past-place.ensures ∙ past_origin (rechannel_of args.a)) c.array_widest-widest.ensures
