-- Each of the three kinds of stage ends where Starting says.
use mathlib.Core.Path.{sym, ◌∙◌, ap}
use Prim.Native.Nat.{suc}
use native.Mathlib.Omega.{arith}
use Rattle.description.proofs.Sound.{length_is, layers_of}
use Rattle.stage.proofs.Numbered.{first_is, layer_is, last_is}
use Rattle.calls.proofs.Starting.{first_fits, first_after, slots_low, layer_after, last_fits, last_after}
use Rattle.calls.proofs.starts.after_stage.Goals as goal

pub past-requires : goal.past-requires
past-requires c = let f = first_fits c.args.description.now c.requires.description_value c.args.k c.requires.a_value.0 c.requires.a_value.2 c.rechannel.ensures in record { low = f.0; fits = f.1 }

pub returns-in-Rechannel : goal.returns-in-Rechannel
returns-in-Rechannel c =
    c.past.ensures
    ∙ first_after c.args.description.now c.requires.description_value c.args.k c.requires.a_value.0 c.requires.a_value.2 c.rechannel.ensures
    (sym (first_is _ _ c.stage_at.ensures c.in-Rechannel.is))

pub layer_record-requires : goal.layer_record-requires
layer_record-requires c =
    let k = layer_is _ _ c.in-Layer.l c.stage_at.ensures c.in-Layer.is in
    omega (arith, length_is c.args.description.now c.requires.description_value, k.0, layers_of c.args.description.now c.requires.a_value.0)

pub slots_from-requires : goal.slots_from-requires
slots_from-requires c =
    let k = layer_is _ _ c.in-Layer.l c.stage_at.ensures c.in-Layer.is in
    let f = slots_low c.args.description.now c.requires.description_value c.args.k c.requires.a_value.0 c.requires.a_value.2 (omega (arith, k.0, layers_of c.args.description.now c.requires.a_value.0)) k.1 c.layer_record.ensures in
    record { array_ranges = f.0; layer_ranges = f.1; low = f.2 }

pub returns-in-Layer : goal.returns-in-Layer
returns-in-Layer c =
    let k = layer_is _ _ c.in-Layer.l c.stage_at.ensures c.in-Layer.is in
    c.slots_from.ensures.2
    ∙ layer_after c.args.description.now c.requires.description_value c.args.k c.requires.a_value.0 c.requires.a_value.2 (omega (arith, k.0, layers_of c.args.description.now c.requires.a_value.0)) k.1 c.layer_record.ensures

pub past-requires-in-HeadRechannel : goal.past-requires-in-HeadRechannel
past-requires-in-HeadRechannel c = let f = last_fits c.args.description.now c.requires.description_value c.args.k c.requires.a_value.0 c.requires.a_value.2 c.head_rechannel.ensures in record { low = f.0; fits = f.1 }

pub returns-in-HeadRechannel : goal.returns-in-HeadRechannel
returns-in-HeadRechannel c =
    let layers = layers_of c.args.description.now c.requires.a_value.0 in
    let k = last_is _ _ c.stage_at.ensures c.in-HeadRechannel.is (omega (arith, layers, c.requires.a_value.1)) in
    c.past-in-HeadRechannel.ensures
    ∙ last_after c.args.description.now c.requires.description_value c.args.k c.requires.a_value.0 c.requires.a_value.2 c.head_rechannel.ensures (sym k ∙ ap suc layers)
