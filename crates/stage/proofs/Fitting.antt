-- A stage's turn gives the layer and the copies around it what they ask. Assumes nothing.
use Rattle.std.specs.Prelude.{Some}
use mathlib.Core.Path.{◌≡◌, refl, sym, ◌∙◌, ap, subst}
use mathlib.Core.List.{List}
use mathlib.Core.Logic.{◌⊎◌, ⊎_elim}
use Prim.Native.Nat.{ℕ, suc, ◌+◌, ◌*◌, ◌≤◌, ◌<◌}
use native.Mathlib.Omega.{arith}
use lib.ListN.{length}
use lib.Ieee.{Float}
use Rattle.shape.specs.declared.Shape.{Shape}
use Rattle.description.specs.Numbers.{layer_count}
use Rattle.description.specs.Parts.{parts_of, slots_of, part_of}
use Rattle.description.specs.Ranges.{ArrayRanges, LayerRanges, Low}
use Rattle.description.specs.Records.{array_of, layer_of}
use Rattle.description.specs.Sizes.{weights_of, histories_of, positions_of, place_at, place_of}
use Rattle.description.specs.Tally.{past_all}
use Rattle.description.specs.declared.places.Place.{Place}
use Rattle.description.specs.declared.records.ArrayRecord.{ArrayRecord}
use Rattle.description.specs.declared.records.LayerRecord.{LayerRecord}
use Rattle.description.proofs.Sound.{array_in_range, layer_in_range, layer_width_le, head_width_is, bottleneck_is, part_in_range, part_divided, weights_most, histories_most, positions_most}
use Rattle.layer.specs.Layered.{slot_place, SlotFits, LayerFits, Layered}
use Rattle.layer.proofs.All.{layer_low}
use Rattle.layer.proofs.Places.{total_le}
use Rattle.array.specs.Stages.{first_part}
use Rattle.array.specs.Turn.{start_of}
use Rattle.stage.specs.declared.span.Span.{Span}
use Rattle.stage.specs.Turns.{StageFits}
use Rattle.stage.proofs.ByKind.{LayerTurn}
use Rattle.stage.specs.Copies.{CopyFits, Brought, HandedOn}
use Rattle.stage.proofs.Widths.{room, array_room, array_room_of, size_most, from_small}
use Rattle.stage.proofs.Through.{slot_is, slot_place_is, layer_next, layer_turn_is}

module _ {d : List ℕ} {span : Span} {k : ℕ} {start : Place} {nweights nhistories : ℕ} {positions : List ℕ} {nscratch : ℕ}
    (fits : StageFits d span k start nweights nhistories positions nscratch) where
  pub copy_fits : {a : ArrayRecord} {nwork : ℕ} → a ≡ array_of d → nwork ≡ 16 * span.size → CopyFits a span nwork
  copy_fits e long = record {
    columns_inside = fits.columns_inside;
    from_in = from_small fits;
    small = size_most fits;
    long = long;
    channels_in = (array_room_of fits e 2).of_block;
    channels_turn = (array_room_of fits e 2).of_turn;
    head_in = (array_room_of fits e 3).of_block;
    head_turn = (array_room_of fits e 3).of_turn;
    condition_turn = (array_room_of fits e 1).of_turn;
  }

module _ {d : List ℕ} {span : Span} {l : ℕ} {start : Place} (weights histories : List Float) {positions : List ℕ} {nscratch : ℕ}
    (fits : StageFits d span (suc l) start (length weights) (length histories) positions nscratch) (in-range : l < layer_count d) where
  abbrev at : Place
  at = place_at d (1 + 12 * l)

  -- the layer's numbers end within the buffers
  ends : (f : Place → ℕ) → f (past_all at (slots_of (array_of d) (layer_of d l))) ≡ f (place_at d (first_part (suc (suc l))))
  ends f = ap f (sym (layer_next d l in-range))

  slot_fits : (k : ℕ) → k < 12 → (sh : Shape) → part_of (array_of d) (layer_of d l) k ≡ Some sh
      → SlotFits (array_of d) (layer_of d l) at sh (slot_place (array_of d) (layer_of d l) at k) histories positions weights
  slot_fits k h sh is =
      let part = slot_is d l in-range k h ∙ is in
      record {
        range = (part_in_range d fits.sound (1 + 12 * l + k)).shape sh part;
        divided = part_divided d fits.sound (1 + 12 * l + k) part;
        place_in = rw (← slot_place_is d l in-range k (omega (arith, h))) (fits.places.is (1 + 12 * l + k) sh part);
      }

  layer_fits_there : {nwork : ℕ} → nwork ≡ 16 * span.size → LayerFits (array_of d) (layer_of d l) at span.size span.count nwork histories positions weights
  unfolding past_all place_at place_of
  layer_fits_there long = record {
    array = array_in_range d fits.sound;
    layer = layer_in_range d fits.sound l in-range;
    some = fits.some;
    channels_in = (array_room fits 2).of_turn;
    condition_in = (array_room fits 1).of_turn;
    head_in = (array_room fits 3).of_turn;
    mid_in = (room fits _ (layer_width_le d fits.sound l 1 in-range (omega arith))).of_turn;
    bottleneck_in = (room fits _ (layer_width_le d fits.sound l 0 in-range (omega arith))).of_turn;
    head1x1_in = (room fits _ (layer_width_le d fits.sound l 2 in-range (omega arith))).of_turn;
    work_in = omega (arith, long);
    small = omega (arith, long, size_most fits);
    head_wide = head_width_is d fits.sound l in-range;
    residual_width = bottleneck_is d fits.sound l in-range;
    slots = slot_fits;
    weights_inside = omega (arith, ends (λ (p : Place). p.weights), total_le weights_of (parts_of d) (first_part (suc (suc l))), fits.weights_are);
    histories_in = omega (arith, ends (λ (p : Place). p.histories), total_le histories_of (parts_of d) (first_part (suc (suc l))), fits.histories_are);
    positions_in = omega (arith, ends (λ (p : Place). p.positions), total_le positions_of (parts_of d) (first_part (suc (suc l))), fits.positions_are);
    few = omega (arith, histories_most d fits.sound, fits.histories_are);
    few_weights = omega (arith, weights_most d fits.sound, fits.weights_are);
    few_positions = omega (arith, positions_most d fits.sound, fits.positions_are);
  }

  start_at : start ≡ at
  unfolding first_part
  start_at = fits.start_is

  -- for records that are the description's, and a place that is the stage's, as the code has them
  pub layer_fits : {a : ArrayRecord} {r : LayerRecord} {place : Place} {nwork : ℕ} → a ≡ array_of d → r ≡ layer_of d l → place ≡ start → nwork ≡ 16 * span.size
      → LayerFits a r place span.size span.count nwork histories positions weights
  layer_fits {a} {r} {place} {nwork} ea er ep long =
      subst (λ (x : ArrayRecord). LayerFits x r place span.size span.count nwork histories positions weights) (sym ea)
      (subst (λ (x : LayerRecord). LayerFits (array_of d) x place span.size span.count nwork histories positions weights) (sym er)
      (subst (λ (x : Place). LayerFits (array_of d) (layer_of d l) x span.size span.count nwork histories positions weights) (sym (ep ∙ start_at))
      (layer_fits_there long)))

  pub slots_fit : {a : ArrayRecord} {r : LayerRecord} → a ≡ array_of d → r ≡ layer_of d l → ArrayRanges a × LayerRanges r × Low 0xffff_ffff (past_all start (slots_of a r))
  slots_fit ea er = let f = layer_fits ea er refl refl in (f.array, f.layer, layer_low f)

  pub end_is : {a : ArrayRecord} {r : LayerRecord} → a ≡ array_of d → r ≡ layer_of d l → past_all start (slots_of a r) ≡ start_of d (suc (suc l))
  end_is {a} {r} ea er = ap (λ (x : ArrayRecord). past_all start (slots_of x r)) ea ∙ ap (λ (x : LayerRecord). past_all start (slots_of (array_of d) x)) er
      ∙ ap (λ (x : Place). past_all x (slots_of (array_of d) (layer_of d l))) start_at ∙ sym (layer_next d l in-range)

  module _ {h1 : List Float} {p1 : List ℕ} (condition w0 w1 w2 w3 : List Float) {result : ℕ} (long : length w0 ≡ nscratch) where
    pub layer_turn : {a : ArrayRecord} {r : LayerRecord} {place : Place} → a ≡ array_of d → r ≡ layer_of d l → place ≡ start
        → Brought a span condition w0 w1 → Layered a r place weights span.size span.count result w1 histories positions w2 h1 p1 → HandedOn a span result w2 w3
        → LayerTurn d weights span histories positions w0 h1 p1 w3 l condition
    layer_turn {a} {r} {place} ea er ep s1 s2 s3 =
        layer_turn_is d l in-range condition w0 w1 w2 w3 (subst (λ (x : ℕ). StageFits d span (suc l) start (length weights) (length histories) positions x) (sym long) fits)
        (subst (λ (x : ArrayRecord). Brought x span condition w0 w1) ea s1)
        (subst (λ (x : Place). Layered (array_of d) (layer_of d l) x weights span.size span.count result w1 histories positions w2 h1 p1) (ep ∙ start_at)
        (subst (λ (x : LayerRecord). Layered (array_of d) x place weights span.size span.count result w1 histories positions w2 h1 p1) er
        (subst (λ (x : ArrayRecord). Layered x r place weights span.size span.count result w1 histories positions w2 h1 p1) ea s2)))
        (subst (λ (x : ArrayRecord). HandedOn x span result w2 w3) ea s3)

-- where a layer's output is
pub result_past : (size result : ℕ) → (result ≡ 2 * size) ⊎ (result ≡ 13 * size) → (2 * size ≤ result) × (result + size ≤ 16 * size)
result_past size result h = ⊎_elim (λ (e : result ≡ 2 * size). (omega (arith, e), omega (arith, e))) (λ (e : result ≡ 13 * size). (omega (arith, e), omega (arith, e))) h
