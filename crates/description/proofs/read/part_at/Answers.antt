-- `part_at` gives the part by its number: the first, the last, or a slot of layer (i - 1) / 12 (Sound).
use mathlib.Core.Path.{subst, sym, ◌∙◌, ap}
use Prim.Native.Nat.{◌-◌, ◌/◌, ◌%◌, ◌<◌}
use native.Mathlib.Omega.{arith}
use borrow.Author.Rules.{rules}
use Rattle.description.specs.Numbers.{layer_count}
use Rattle.description.specs.Parts.{head_rechannel_of, part_of, rechannel_of}
use Rattle.description.specs.Ranges.{ArrayRanges, LayerRanges}
use Rattle.description.specs.Records.{layer_of}
use Rattle.description.specs.declared.records.ArrayRecord.{ArrayRecord}
use Rattle.description.specs.declared.records.LayerRecord.{LayerRecord}
use Rattle.description.proofs.Sound.{array_in_range, layer_in_range, layers_of, length_is, number_first, number_last, number_slot}
use Rattle.description.proofs.read.part_at.Goals as goal

pub returns-then-i-eq0 : goal.returns-then-i-eq0
returns-then-i-eq0 c =
    let args = c.args in
    c.rechannel.ensures ∙ ap rechannel_of c.requires.a_value ∙ number_first args.description.now args.i c.if-i-eq0.true

pub returns-then-l-layers : goal.returns-then-l-layers
returns-then-l-layers c =
    let pre = c.requires in
    let args = c.args in
    c.head_rechannel.ensures
    ∙ ap head_rechannel_of pre.a_value
    ∙ number_last args.description.now args.i c.if-i-eq0.false (c.if-l-layers.true ∙ layers_of args.description.now pre.a_value) pre.i_bound

pub layer_record-requires : goal.layer_record-requires
layer_record-requires c =
    let pre = c.requires in
    let args = c.args in
    omega (arith, pre.i_bound, c.if-l-layers.false, layers_of args.description.now pre.a_value, length_is args.description.now pre.description_value)

pub slot-requires : goal.slot-requires
slot-requires c =
    let args = c.args in
    let pre = c.requires in
    let less : (args.i - 1) / 12 < layer_count args.description.now = omega (arith, pre.i_bound, c.if-l-layers.false, layers_of args.description.now pre.a_value) in record { array_ranges = subst ArrayRanges (sym pre.a_value) (array_in_range args.description.now pre.description_value); layer_ranges = subst LayerRanges (sym c.layer_record.ensures) (layer_in_range args.description.now pre.description_value ((args.i - 1) / 12) less); k_bound = search rules }

pub returns : goal.returns
returns c =
    let args = c.args in
    let pre = c.requires in
    c.slot.ensures
    ∙ ap (λ (r : LayerRecord). part_of args.a r ((args.i - 1) % 12)) c.layer_record.ensures
    ∙ ap (λ (a : ArrayRecord). part_of a (layer_of args.description.now ((args.i - 1) / 12)) ((args.i - 1) % 12)) pre.a_value
    ∙ number_slot args.description.now args.i c.if-i-eq0.false (λ e. c.if-l-layers.false (e ∙ sym (layers_of args.description.now pre.a_value))) pre.i_bound
