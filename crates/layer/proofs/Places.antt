-- Where the numbers of a layer's slots lie: one slot after the other, none in common, within the layer's. Assumes nothing.
use Rattle.std.specs.Prelude.{None}
use mathlib.Core.Path.{◌≡◌, refl, sym, ◌∙◌, ap}
use mathlib.Core.List.{List, [], ◌∷◌}
use mathlib.Core.Logic.{⊎_elim}
use Prim.Native.Nat.{ℕ, zero, suc, ◌+◌, ◌≤◌, ◌<◌}
use native.Mathlib.Nat.{add-zero, not-suc-le-zero, le_of_suc-le-suc}
use native.Mathlib.Omega.{arith}
use lib.ListN.{length, get_or, take}
use Rattle.lists.specs.Region.{Apart}
use Rattle.lists.proofs.Nums.{le_or_lt}
use Rattle.description.specs.Parts.{slots_of, part_of}
use Rattle.description.specs.Ranges.{Low}
use Rattle.description.specs.Sizes.{weights_of, histories_of, positions_of, total, past_of}
use Rattle.description.specs.Tally.{past_all}
use Rattle.description.specs.declared.records.ArrayRecord.{ArrayRecord}
use Rattle.description.specs.declared.records.LayerRecord.{LayerRecord}
use Rattle.description.specs.Part.{Part}
use Rattle.description.specs.declared.places.Place.{Place}
use Rattle.layer.specs.declared.slots.Slots.{Slots}
use Rattle.layer.specs.Layered.{slot_place}
use Rattle.layer.specs.Slots.{place_in, SlotsOf}

-- ---- sums of the first parts
module _ (f : Part → ℕ) where
  -- the first i parts and part i are the first i + 1
  pub total_more : (ps : List Part) (i : ℕ) → i < length ps → total f (take i ps) + f (get_or ps i None) ≡ total f (take (suc i) ps)
  unfolding total
  total_more [] i h = absurd (not-suc-le-zero h)
  total_more (p ∷ ps) zero h = omega arith
  total_more (p ∷ ps) (suc i) h = let e = total_more ps i (le_of_suc-le-suc h) in omega arith

  -- more parts, more numbers
  pub total_mono : (ps : List Part) (i j : ℕ) → i ≤ j → total f (take i ps) ≤ total f (take j ps)
  unfolding total
  total_mono [] zero zero h = omega arith
  total_mono [] zero (suc j) h = omega arith
  total_mono [] (suc i) zero h = omega arith
  total_mono [] (suc i) (suc j) h = omega arith
  total_mono (p ∷ ps) zero j h = omega arith
  total_mono (p ∷ ps) (suc i) zero h = absurd (not-suc-le-zero h)
  total_mono (p ∷ ps) (suc i) (suc j) h = let e = total_mono ps i j (le_of_suc-le-suc h) in omega arith

  pub total_le : (ps : List Part) (i : ℕ) → total f (take i ps) ≤ total f ps
  unfolding total
  total_le [] zero = omega arith
  total_le [] (suc i) = omega arith
  total_le (p ∷ ps) zero = omega arith
  total_le (p ∷ ps) (suc i) = let e = total_le ps i in omega arith

-- ---- slots
module _ (a : ArrayRecord) (r : LayerRecord) where
  slots_length : length (slots_of a r) ≡ 12
  unfolding slots_of
  slots_length = refl

  -- how many numbers of a kind the slots before slot k have
  abbrev before : (Part → ℕ) → ℕ → ℕ
  before f k = total f (take k (slots_of a r))

  module _ (f : Part → ℕ) where
    slot_more : (k : ℕ) → k < 12 → before f k + f (part_of a r k) ≡ before f (suc k)
    unfolding part_of
    slot_more k h = total_more f (slots_of a r) k (omega (arith, slots_length))

    -- slot k ends within the layer's numbers
    pub slot_within : (k : ℕ) → k < 12 → before f k + f (part_of a r k) ≤ total f (slots_of a r)
    slot_within k h = omega (arith, slot_more k h, total_le f (slots_of a r) (suc k))

    -- of two slots one ends where the other starts, or before
    pub slots_apart : (j k : ℕ) → j < 12 → k < 12 → (k ≡ j → ⊥) → (n : ℕ) → Apart (n + before f j) (f (part_of a r j)) (n + before f k) (f (part_of a r k))
    slots_apart j k hj hk ne n =
        let mj = slot_more j hj in
        let mk = slot_more k hk in
        ⊎_elim
        (λ (l : suc j ≤ k). let q = total_mono f (slots_of a r) (suc j) k l in omega arith)
        (λ (l : k < suc j). ⊎_elim
        (λ (l2 : suc k ≤ j). let q = total_mono f (slots_of a r) (suc k) j l2 in omega arith)
        (λ (l2 : j < suc k). absurd (ne (omega arith)))
        (le_or_lt (suc k) j))
        (le_or_lt (suc j) k)

  module _ (start : Place) where
    pub slot_first : slot_place a r start 0 ≡ start
    unfolding slot_place past_all total
    slot_first = rw (add-zero start.weights, add-zero start.histories, add-zero start.positions)

    -- the place of the next slot is the place past this one
    pub slot_next : (k : ℕ) → k < 12 → past_of (slot_place a r start k) (part_of a r k) ≡ slot_place a r start (suc k)
    unfolding slot_place past_all past_of
    slot_next k h =
        let one : (f : Part → ℕ) (n : ℕ) → n + before f k + f (part_of a r k) ≡ n + before f (suc k) = λ f n. let e = slot_more f k h in omega arith in
        rw (one weights_of start.weights, one histories_of start.histories, one positions_of start.positions)

    pub slot_low : (bound k : ℕ) → Low bound (past_all start (slots_of a r)) → Low bound (slot_place a r start k)
    unfolding slot_place past_all
    slot_low bound k l = record {
      weights = omega (arith, l.weights, total_le weights_of (slots_of a r) k);
      histories = omega (arith, l.histories, total_le histories_of (slots_of a r) k);
      positions = omega (arith, l.positions, total_le positions_of (slots_of a r) k);
    }

pub low_more : {place : Place} (n k : ℕ) → n ≤ k → Low n place → Low k place
low_more n k h l = record { weights = omega (arith, l.weights); histories = omega (arith, l.histories); positions = omega (arith, l.positions) }

-- ---- the struct of places
module _ (a : ArrayRecord) (r : LayerRecord) (start : Place) (s : Slots) (first : s.conv ≡ start)
    (e1 : s.mixin ≡ slot_place a r start 1)
    (e2 : s.layer1x1 ≡ slot_place a r start 2)
    (e3 : s.head1x1 ≡ slot_place a r start 3)
    (e4 : s.conv_pre ≡ slot_place a r start 4)
    (e5 : s.conv_post ≡ slot_place a r start 5)
    (e6 : s.input_mixin_pre ≡ slot_place a r start 6)
    (e7 : s.input_mixin_post ≡ slot_place a r start 7)
    (e8 : s.activation_pre ≡ slot_place a r start 8)
    (e9 : s.activation_post ≡ slot_place a r start 9)
    (e10 : s.layer1x1_post ≡ slot_place a r start 10)
    (e11 : s.head1x1_post ≡ slot_place a r start 11)
    (e12 : s.end ≡ slot_place a r start 12) where
  place_is : (k : ℕ) → k ≤ 12 → place_in s k ≡ slot_place a r start k
  place_is zero h = first ∙ sym (slot_first a r start)
  place_is (suc zero) h = e1
  place_is (suc (suc zero)) h = e2
  place_is (suc (suc (suc zero))) h = e3
  place_is (suc (suc (suc (suc zero)))) h = e4
  place_is (suc (suc (suc (suc (suc zero))))) h = e5
  place_is (suc (suc (suc (suc (suc (suc zero)))))) h = e6
  place_is (suc (suc (suc (suc (suc (suc (suc zero))))))) h = e7
  place_is (suc (suc (suc (suc (suc (suc (suc (suc zero)))))))) h = e8
  place_is (suc (suc (suc (suc (suc (suc (suc (suc (suc zero))))))))) h = e9
  place_is (suc (suc (suc (suc (suc (suc (suc (suc (suc (suc zero)))))))))) h = e10
  place_is (suc (suc (suc (suc (suc (suc (suc (suc (suc (suc (suc zero))))))))))) h = e11
  place_is (suc (suc (suc (suc (suc (suc (suc (suc (suc (suc (suc (suc zero)))))))))))) h = e12
  place_is (suc (suc (suc (suc (suc (suc (suc (suc (suc (suc (suc (suc (suc k))))))))))))) h = absurd (omega arith)

  pub slots_are : SlotsOf a r s
  slots_are = record { is = λ k h. place_is k h ∙ ap (λ (p : Place). slot_place a r p k) (sym first) }

  pub slots_end : s.end ≡ past_all start (slots_of a r)
  unfolding slot_place slots_of
  slots_end = e12
