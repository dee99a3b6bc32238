-- `places_beyond` meets its contract. The loop's invariant: the parts before layer l are passed (Passing).
use Rattle.std.specs.Prelude.{Some}
use mathlib.Core.List.{[], ◌∷◌}
use mathlib.Core.Path.{◌∙◌, ◌≡◌, ap, subst, sym}
use Prim.Native.Nat.{◌<◌}
use native.Mathlib.Omega.{arith}
use borrow.Author.Rules.{rules}
use Rattle.description.proofs.Slots.{head_rechannel_fits, rechannel_fits}
use Rattle.description.proofs.Sound.{array_in_range, layer_in_range, layers_of, length_is}
use Rattle.description.specs.Numbers.{layer_count}
use Rattle.description.specs.Parts.{head_rechannel_of, rechannel_of}
use Rattle.description.specs.Ranges.{ArrayRanges, Fits, LayerRanges}
use Rattle.description.specs.Records.{array_of}
use Rattle.description.specs.Sizes.{positions_of, total}
use Rattle.description.specs.Part.{Part}
use Rattle.admit.specs.Passes.{passed}
use Rattle.admit.proofs.Passing.{first_passed, first_room, last_passed, last_room, layer_more, layer_room, origin, slots_same}
use Rattle.admit.proofs.places.places_beyond.Goals as goal

pub part-pass-requires : goal.part-pass-requires
part-pass-requires c =
    let args = c.args in
    let pre = c.requires in
    let e : Some c.rechannel.result ≡ rechannel_of (array_of args.description.now) = c.rechannel.ensures ∙ ap rechannel_of pre.a_value in
    record { fits = subst Fits (sym e) (rechannel_fits (array_in_range args.description.now pre.description_value)); part_in_bounds = omega (arith, ap positions_of e, first_room args.description.now args.positions.now pre.positions_len) }

pub loop-l-init : goal.loop-l-init
loop-l-init c =
    let args = c.args in
    let pre = c.requires in
    let e : Some c.rechannel.result ≡ rechannel_of (array_of args.description.now) = c.rechannel.ensures ∙ ap rechannel_of pre.a_value in
    (search rules, pre.description_value, pre.a_value, pre.positions_len, layers_of args.description.now pre.a_value, first_passed args.description.now args.positions.now pre.positions_len (c.part-pass.ensures ∙ ap (λ (p : Part). passed args.positions.now origin (p ∷ [])) e))

pub layer_record-r-requires : goal.layer_record-r-requires
layer_record-r-requires c = omega (arith, length_is c.args.description.now c.loop-l.invariant.1, c.loop-l.invariant.4, c.loop-l-test.true)

pub layer-pass-requires : goal.layer-pass-requires
layer-pass-requires c =
    let args = c.args in
    let l = c.loop-l in
    let lt : l.l < layer_count args.description.now = omega (arith, l.invariant.4, c.loop-l-test.true) in
    record { array_ranges = subst ArrayRanges (sym l.invariant.2) (array_in_range args.description.now l.invariant.1); layer_ranges = subst LayerRanges (sym c.layer_record-r.ensures) (layer_in_range args.description.now l.invariant.1 l.l lt); r_in_bounds = omega (arith, ap (total positions_of) (slots_same l.invariant.2 c.layer_record-r.ensures), layer_room args.description.now args.positions.now l.invariant.3 l.l l.invariant.5 lt) }

pub loop-l-preserved : goal.loop-l-preserved
loop-l-preserved c =
    let args = c.args in
    let l = c.loop-l in
    (search rules, l.invariant.1, l.invariant.2, l.invariant.3, l.invariant.4, layer_more args.description.now args.positions.now l.invariant.3 l.l l.invariant.5 (c.layer-pass.ensures ∙ ap (passed args.positions.now l.pass) (slots_same l.invariant.2 c.layer_record-r.ensures)))

pub part-last-requires : goal.part-last-requires
part-last-requires c =
    let args = c.args in
    let l = c.loop-l in
    let e : Some c.head_rechannel.result ≡ head_rechannel_of (array_of args.description.now) = c.head_rechannel.ensures ∙ ap head_rechannel_of l.invariant.2 in
    let end : l.l ≡ layer_count args.description.now = omega (arith, l.invariant.0, l.invariant.4, c.loop-l-test.false) in
    record { fits = subst Fits (sym e) (head_rechannel_fits (array_in_range args.description.now l.invariant.1)); part_in_bounds = omega (arith, ap positions_of e, last_room args.description.now args.positions.now l.invariant.3 l.l l.invariant.5 end) }

pub returns : goal.returns
returns c =
    let head-rechannel = c.head_rechannel in
    let args = c.args in
    let l = c.loop-l in
    let e : Some head-rechannel.result ≡ head_rechannel_of (array_of args.description.now) = head-rechannel.ensures ∙ ap head_rechannel_of l.invariant.2 in
    let end : l.l ≡ layer_count args.description.now = omega (arith, l.invariant.0, l.invariant.4, c.loop-l-test.false) in
    last_passed args.description.now args.positions.now l.invariant.3 l.l l.invariant.5 end (c.part-last.ensures ∙ ap (λ (p : Part). passed args.positions.now l.pass (p ∷ [])) e)
