-- A step on one slot: it moves that slot's memory on by m columns, and leaves the other slots' memories, their places and the layer's input and condition. Assumes nothing.
use Rattle.std.specs.Prelude.{Some}
use mathlib.Core.Path.{◌≡◌, refl, sym, ◌∙◌, ap, subst}
use mathlib.Core.Bool.{Bool, cond}
use mathlib.Core.List.{List, [], ◌∷◌}
use mathlib.Core.Logic.{◌⊎◌, inl, inr, ⊎_elim}
use Prim.Native.Nat.{ℕ, zero, suc, ◌+◌, ◌*◌, ◌≤◌, ◌<◌}
use native.Mathlib.Omega.{arith}
use lib.Dec.{ltb}
use lib.ListN.{length, get_or}
use lib.Ieee.{Float, nan}
use borrow.Author.Tests.{lt-ltb, le-ltb}
use Rattle.lists.specs.Region.{Apart, Free}
use Rattle.lists.proofs.Nums.{le_or_lt}
use Rattle.lists.proofs.Regions.{free_as, holds_free}
use Rattle.ring.specs.Memory.{Memory}
use Rattle.shape.specs.declared.Shape.{Shape}
use Rattle.shape.specs.Counts.{ring_length}
use Rattle.description.specs.Parts.{part_of}
use Rattle.description.specs.Sizes.{histories_of, positions_of}
use Rattle.description.specs.Tally.{past_all}
use Rattle.description.specs.declared.records.ArrayRecord.{ArrayRecord}
use Rattle.description.specs.declared.records.LayerRecord.{LayerRecord}
use Rattle.description.specs.Part.{Part}
use Rattle.description.specs.declared.places.Place.{Place}
use Rattle.slot.proofs.Trace.{memory_kept}
use Rattle.layer.specs.Layered.{slot_place, slot_memory, memories_at, LayerFits}
use Rattle.layer.specs.Slots.{turn_of}
use Rattle.layer.specs.Pieces.{UnderWay, Leaves}
use Rattle.layer.proofs.Places.{slot_within, slots_apart}

-- ---- turns
same_or : (k j : ℕ) → (k ≡ j) ⊎ (k ≡ j → ⊥)
same_or k j =
    ⊎_elim
    (λ (l : suc k ≤ j). inr (λ e. omega arith))
    (λ (l : j < suc k). ⊎_elim (λ (q : suc j ≤ k). inr (λ e. omega arith)) (λ (q : k < suc j). inl (omega arith)) (le_or_lt (suc j) k))
    (le_or_lt (suc k) j)

-- the slot of each turn
slot_of : ℕ → ℕ
slot_of n = get_or (4 ∷ 0 ∷ 5 ∷ 6 ∷ 1 ∷ 7 ∷ 8 ∷ 9 ∷ 3 ∷ 11 ∷ 2 ∷ 10 ∷ []) n 12

slot_of_turn : (k : ℕ) → k < 12 → slot_of (turn_of k) ≡ k
unfolding slot_of
slot_of_turn zero h = refl
slot_of_turn (suc zero) h = refl
slot_of_turn (suc (suc zero)) h = refl
slot_of_turn (suc (suc (suc zero))) h = refl
slot_of_turn (suc (suc (suc (suc zero)))) h = refl
slot_of_turn (suc (suc (suc (suc (suc zero))))) h = refl
slot_of_turn (suc (suc (suc (suc (suc (suc zero)))))) h = refl
slot_of_turn (suc (suc (suc (suc (suc (suc (suc zero))))))) h = refl
slot_of_turn (suc (suc (suc (suc (suc (suc (suc (suc zero)))))))) h = refl
slot_of_turn (suc (suc (suc (suc (suc (suc (suc (suc (suc zero))))))))) h = refl
slot_of_turn (suc (suc (suc (suc (suc (suc (suc (suc (suc (suc zero)))))))))) h = refl
slot_of_turn (suc (suc (suc (suc (suc (suc (suc (suc (suc (suc (suc zero))))))))))) h = refl
slot_of_turn (suc (suc (suc (suc (suc (suc (suc (suc (suc (suc (suc (suc k)))))))))))) h = absurd (omega arith)

pub turn_lt : (k : ℕ) → k < 12 → turn_of k < 12
turn_lt zero h = omega arith
turn_lt (suc zero) h = omega arith
turn_lt (suc (suc zero)) h = omega arith
turn_lt (suc (suc (suc zero))) h = omega arith
turn_lt (suc (suc (suc (suc zero)))) h = omega arith
turn_lt (suc (suc (suc (suc (suc zero))))) h = omega arith
turn_lt (suc (suc (suc (suc (suc (suc zero)))))) h = omega arith
turn_lt (suc (suc (suc (suc (suc (suc (suc zero))))))) h = omega arith
turn_lt (suc (suc (suc (suc (suc (suc (suc (suc zero)))))))) h = omega arith
turn_lt (suc (suc (suc (suc (suc (suc (suc (suc (suc zero))))))))) h = omega arith
turn_lt (suc (suc (suc (suc (suc (suc (suc (suc (suc (suc zero)))))))))) h = omega arith
turn_lt (suc (suc (suc (suc (suc (suc (suc (suc (suc (suc (suc zero))))))))))) h = omega arith
turn_lt (suc (suc (suc (suc (suc (suc (suc (suc (suc (suc (suc (suc k)))))))))))) h = absurd (omega arith)

turns_differ : (k j : ℕ) → k < 12 → j < 12 → (k ≡ j → ⊥) → turn_of k ≡ turn_of j → ⊥
turns_differ k j hk hj ne e = ne (sym (slot_of_turn k hk) ∙ ap slot_of e ∙ slot_of_turn j hj)

-- another turn is before this one or it is not, and so it is with the next
same_side : (n k : ℕ) → (n ≡ k → ⊥) → ltb n k ≡ ltb n (suc k)
same_side n k ne =
    ⊎_elim
    (λ (l : suc n ≤ k). lt-ltb n k l ∙ sym (lt-ltb n (suc k) (omega arith)))
    (λ (l : k < suc n). le-ltb n k (omega arith)
    ∙ sym (le-ltb n (suc k) (⊎_elim (λ (q : suc k ≤ n). q) (λ (q : n < suc k). absurd (ne (omega arith))) (le_or_lt (suc k) n))))
    (le_or_lt (suc n) k)

module _ {a : ArrayRecord} {r : LayerRecord} {start : Place} {size m nwork : ℕ} {histories : List Float} {positions : List ℕ} {weights : List Float}
    (fits : LayerFits a r start size m nwork histories positions weights) where
  -- slot j's numbers lie within the buffers
  pub histories_in : (j : ℕ) → j < 12 → (slot_place a r start j).histories + histories_of (part_of a r j) ≤ length histories
  unfolding slot_place past_all
  histories_in j h = omega (arith, slot_within a r histories_of j h, fits.histories_in)

  pub positions_in : (j : ℕ) → j < 12 → (slot_place a r start j).positions + positions_of (part_of a r j) ≤ length positions
  unfolding slot_place past_all
  positions_in j h = omega (arith, slot_within a r positions_of j h, fits.positions_in)

  -- a step that changes slot j's histories and position, or fewer
  module _ (j : ℕ) (hj : j < 12) (q : Part) {histories' : List Float} {positions' : List ℕ}
      (fewer : histories_of q ≤ histories_of (part_of a r j)) (fewer-places : positions_of q ≤ positions_of (part_of a r j))
      (kept : Free nan (λ i. Apart (slot_place a r start j).histories (histories_of q) i 1) histories histories')
      (kept_places : Free 0 (λ i. Apart (slot_place a r start j).positions (positions_of q) i 1) positions positions') where
    others_kept : (k : ℕ) → k < 12 → (k ≡ j → ⊥) → slot_memory a r start histories' positions' k ≡ slot_memory a r start histories positions k
    unfolding slot_memory slot_place past_all
    others_kept k hk ne =
        memory_kept kept kept_places (part_of a r k) (slot_place a r start k) (histories_in k hk)
        (λ i lo hi. omega (arith, slots_apart a r histories_of j k hj hk ne start.histories, fewer, lo, hi))
        (λ i lo hi. omega (arith, slots_apart a r positions_of j k hj hk ne start.positions, fewer-places, lo, hi))

    place_kept : (k : ℕ) → k < 12 → (k ≡ j → ⊥) → (sh : Shape) → part_of a r k ≡ Some sh
        → get_or positions' (slot_place a r start k).positions 0 ≡ get_or positions (slot_place a r start k).positions 0
    unfolding slot_place past_all positions_of
    place_kept k hk ne sh e =
        let one : positions_of (part_of a r k) ≡ 1 = ap positions_of e in
        kept_places.is _ (omega (arith, slots_apart a r positions_of j k hj hk ne start.positions, fewer-places, one))

    -- the frames, if the slot's own position stays below its ring length
    pub leaves : {P : ℕ → Type 0} {work work' : List Float} → Free nan P work work'
        → ((sh : Shape) → part_of a r j ≡ Some sh → get_or positions' (slot_place a r start j).positions 0 < ring_length sh)
        → Leaves a r start weights size m work histories positions work' histories' positions' P
    unfolding slot_place past_all
    leaves f own = record {
      others = f;
      places = λ k hk sh e. ⊎_elim
          (λ (q : k ≡ j). subst (λ (k : ℕ). part_of a r k ≡ Some sh → get_or positions' (slot_place a r start k).positions 0 < ring_length sh) (sym q) (own sh) e)
          (λ (ne : k ≡ j → ⊥). rw (place_kept k hk ne sh e) (fits.slots k hk sh e).place_in)
          (same_or k j);
      histories_kept = free_as kept (λ i h. omega (arith, slot_within a r histories_of j hj, fewer, h));
      positions_kept = free_as kept_places (λ i h. omega (arith, slot_within a r positions_of j hj, fewer-places, h));
    }

    -- the slot's turn
    module _ {work work' : List Float} {P : ℕ → Type 0} (f : Free nan P work work') (P-is : (i : ℕ) → i < 4 * size → P i)
        {x c : ℕ → ℕ → Float} {s : ℕ → Memory} (u : UnderWay a r start weights size m x c s (turn_of j) work histories positions)
        (own : slot_memory a r start histories' positions' j ≡ memories_at a r start weights x c s m j) where
      pub advance : UnderWay a r start weights size m x c s (suc (turn_of j)) work' histories' positions'
      advance = record {
        input = holds_free f (λ i lo hi. P-is i (omega (arith, hi, fits.channels_in))) u.input;
        condition = holds_free f (λ i lo hi. P-is i (omega (arith, hi, fits.condition_in))) u.condition;
        memories = λ k hk. ⊎_elim
            (λ (q : k ≡ j). subst (λ (k : ℕ). slot_memory a r start histories' positions' k ≡ memories_at a r start weights x c s (cond (ltb (turn_of k) (suc (turn_of j))) m 0) k) (sym q)
            (rw (lt-ltb (turn_of j) (suc (turn_of j)) (omega arith)) own))
            (λ (ne : k ≡ j → ⊥). others_kept k hk ne ∙ u.memories k hk
            ∙ ap (λ (b : Bool). memories_at a r start weights x c s (cond b m 0) k) (same_side (turn_of k) (turn_of j) (turns_differ k j hk hj ne)))
            (same_or k j);
      }

-- before its turn a slot remembers s
pub unplayed : {a : ArrayRecord} {r : LayerRecord} {start : Place} {weights : List Float} {size m : ℕ} {x c : ℕ → ℕ → Float} {s : ℕ → Memory} {work histories : List Float}
    {positions : List ℕ} (j : ℕ) → j < 12 → UnderWay a r start weights size m x c s (turn_of j) work histories positions
    → slot_memory a r start histories positions j ≡ memories_at a r start weights x c s 0 j
unplayed {a} {r} {start} {weights} {size} {m} {x} {c} {s} j h u =
    u.memories j h ∙ ap (λ (b : Bool). memories_at a r start weights x c s (cond b m 0) j) (le-ltb (turn_of j) (turn_of j) (omega arith))
