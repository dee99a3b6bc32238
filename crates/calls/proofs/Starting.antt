-- Where the stages' numbers start, one after the other. Assumes nothing.
use Rattle.std.specs.Prelude.{None}
use mathlib.Core.Path.{◌≡◌, refl, sym, ◌∙◌, ap, subst}
use mathlib.Core.List.{List, ◌∷◌}
use mathlib.Core.Logic.{⊎_elim}
use Prim.Native.Nat.{ℕ, zero, suc, ◌+◌, ◌-◌, ◌*◌, ◌≤◌, ◌<◌}
use native.Mathlib.Nat.{not-suc-le-zero, le_of_suc-le-suc, sub-zero}
use native.Mathlib.Omega.{arith}
use lib.ListN.{length, get_or, set, take, replicate, length-replicate}
use lib.Seq.{take_all, get_or-set_same, get_or-set_other}
use Rattle.lists.proofs.Nums.{le_or_lt}
use Rattle.description.specs.Numbers.{layer_count}
use Rattle.description.specs.Parts.{parts_of, slots_of, rechannel_of, head_rechannel_of}
use Rattle.description.specs.Ranges.{ArrayRanges, LayerRanges, Low, Fits}
use Rattle.description.specs.Records.{array_of, layer_of}
use Rattle.description.specs.Refusals.{refusal_of}
use Rattle.description.specs.Sizes.{weights_of, histories_of, positions_of, place_at, place_of, past_of}
use Rattle.description.specs.Tally.{past_all}
use Rattle.description.specs.Part.{Part}
use Rattle.description.specs.declared.places.Place.{Place}
use Rattle.description.specs.declared.records.ArrayRecord.{ArrayRecord}
use Rattle.description.specs.declared.records.LayerRecord.{LayerRecord}
use Rattle.description.proofs.Sound.{array_in_range, layer_in_range, part_first, part_last, part_in_range, place_next, length-parts, weights_most, histories_most, positions_most}
use Rattle.layer.proofs.Places.{total_le}
use Rattle.array.specs.Stages.{first_part}
use Rattle.array.specs.Turn.{start_of}
use Rattle.stage.proofs.Through.{layer_next}
use Rattle.calls.specs.Fit.{nowhere}

module _ (d : List ℕ) (ok : refusal_of d ≡ 0) where
  -- every place is low
  pub low-at : (i : ℕ) → Low 0xffff_ffff (place_at d i)
  unfolding place_at place_of
  low-at i = record {
    weights = omega (arith, total_le weights_of (parts_of d) i, weights_most d ok);
    histories = omega (arith, total_le histories_of (parts_of d) i, histories_most d ok);
    positions = omega (arith, total_le positions_of (parts_of d) i, positions_most d ok);
  }

  more : {place : Place} → Low 0xffff_ffff place → Low 0x100_0000_0000 place
  more l = record { weights = omega (arith, l.weights); histories = omega (arith, l.histories); positions = omega (arith, l.positions) }

  module _ {a : ArrayRecord} {start : Place} (k : ℕ) (is : a ≡ array_of d) (at : start ≡ start_of d k) where
    -- stage 0
    pub first_fits : {p : Part} → p ≡ rechannel_of a → Low 0x100_0000_0000 start × Fits p
    first_fits e = (rw at (more (low-at (first_part k))), rw (e ∙ ap rechannel_of is ∙ sym (part_first d)) (part_in_range d ok 0))

    pub first_after : {p : Part} → p ≡ rechannel_of a → k ≡ 0 → past_of start p ≡ start_of d (suc k)
    unfolding first_part
    first_after e z = rw (at, z, e ∙ ap rechannel_of is ∙ sym (part_first d)) (sym (place_next d 0 (omega (arith, length-parts d))))

    -- the layers
    module _ {l : ℕ} {r : LayerRecord} (in-range : l < layer_count d) (number : suc l ≡ k) (reads : r ≡ layer_of d l) where
      there : start ≡ place_at d (1 + 12 * l)
      unfolding first_part
      there = at ∙ ap (λ (j : ℕ). place_at d (first_part j)) (sym number)

      pub layer_after : past_all start (slots_of a r) ≡ start_of d (suc k)
      layer_after =
          ap (λ (x : ArrayRecord). past_all start (slots_of x r)) is ∙ ap (λ (x : LayerRecord). past_all start (slots_of (array_of d) x)) reads
          ∙ ap (λ (x : Place). past_all x (slots_of (array_of d) (layer_of d l))) there
          ∙ sym (layer_next d l in-range)
          ∙ ap (λ (j : ℕ). start_of d (suc j)) number

      pub slots_low : ArrayRanges a × LayerRanges r × Low 0xffff_ffff (past_all start (slots_of a r))
      slots_low = (
        subst ArrayRanges (sym is) (array_in_range d ok),
        subst LayerRanges (sym reads) (layer_in_range d ok l in-range),
        subst (Low 0xffff_ffff) (sym layer_after) (low-at (first_part (suc k))),
      )

    -- the last stage
    pub last_fits : {p : Part} → p ≡ head_rechannel_of a → Low 0x100_0000_0000 start × Fits p
    last_fits e = (rw at (more (low-at (first_part k))), rw (e ∙ ap head_rechannel_of is ∙ sym (part_last d)) (part_in_range d ok (12 * layer_count d + 1)))

    pub last_after : {p : Part} → p ≡ head_rechannel_of a → k ≡ suc (layer_count d) → past_of start p ≡ start_of d (suc k)
    unfolding place_at first_part
    last_after e z =
        let far : length (parts_of d) ≤ 1 + 12 * suc (layer_count d) = omega (arith, length-parts d) in
        let near : length (parts_of d) ≤ 12 * layer_count d + 1 + 1 = omega (arith, length-parts d) in
        let q : 1 + 12 * layer_count d ≡ 12 * layer_count d + 1 = omega arith in
        rw (at, z, e ∙ ap head_rechannel_of is ∙ sym (part_last d))
        (sym (ap place_of (take_all _ (parts_of d) far ∙ sym (take_all _ (parts_of d) near))
        ∙ place_next d (12 * layer_count d + 1) (omega (arith, length-parts d))
        ∙ ap (λ (j : ℕ). past_of (place_of (take j (parts_of d))) (get_or (parts_of d) (12 * layer_count d + 1) None)) (sym q)))

-- one start more in the list
pub start_stored : (d : List ℕ) (places : List Place) (k : ℕ) {start : Place} → k < length places → start ≡ start_of d k
    → ((j : ℕ) → j < k → get_or places j nowhere ≡ start_of d j) → (j : ℕ) → j < k + 1 → get_or (set places k start) j nowhere ≡ start_of d j
start_stored d places k {start} room is before j le =
    ⊎_elim
    (λ (l : k ≤ j). let same : j ≡ k = omega (arith, l, le) in rw same (get_or-set_same places k start nowhere room ∙ is))
    (λ (l : j < k). get_or-set_other places k j start nowhere (λ e. omega (arith, e, l)) ∙ before j l)
    (le_or_lt k j)

-- as many zeros as there are stages, of an array of 26
abbrev zeros : ℕ → List ℕ
zeros n = replicate n 0

take_zeros : (s m : ℕ) → s ≤ m → take s (zeros m) ≡ zeros s
take_zeros zero m le = refl
take_zeros (suc s) zero le = absurd (not-suc-le-zero le)
take_zeros (suc s) (suc m) le = ap (λ (l : List ℕ). 0 ∷ l) (take_zeros s m (le_of_suc-le-suc le))

pub zeros_cut : (stages n : ℕ) → stages ≡ n → stages ≤ 26 → take (stages - 0) (zeros 26) ≡ zeros n
zeros_cut stages n is le = rw (sub-zero stages) (take_zeros stages 26 le ∙ ap zeros is)

pub zeros_long : (stages n : ℕ) → stages ≡ n → stages ≤ 26 → length (take (stages - 0) (zeros 26)) ≡ n
zeros_long stages n is le = ap length (zeros_cut stages n is le) ∙ length-replicate {A = ℕ} n 0
