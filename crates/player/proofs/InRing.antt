-- Positions stay in their rings: of what the stages remember after a reset and any columns, each place is below its ring length. So no block is refused
-- with 8. Assumes nothing.
use Rattle.std.specs.Prelude.{None, Some}
use mathlib.Core.Path.{◌≡◌, refl, sym, ◌∙◌, ap}
use mathlib.Core.Bool.{Bool, true, false, cond}
use mathlib.Core.List.{List, [], ◌∷◌, ◌++◌}
use Prim.Native.Nat.{ℕ, zero, suc, ◌+◌, ◌*◌, ◌<◌}
use native.Mathlib.Nat.{not-suc-le-zero, le_of_suc-le-suc}
use native.Mathlib.Omega.{arith}
use lib.Dec.{ltb}
use lib.Ieee.{Float}
use lib.ListN.{get_or, length, take}
use borrow.Author.Tests.{ltb-true}
use Rattle.lists.specs.Tab.{at, tab}
use Rattle.lists.proofs.Tab.{at-tab, length-tab}
use Rattle.ring.specs.Memory.{Memory, push}
use Rattle.ring.specs.Place.{next_place}
use Rattle.shape.specs.Counts.{ring_length}
use Rattle.shape.specs.declared.Shape.{Shape}
use Rattle.turns.specs.Grid.{states_after}
use Rattle.description.specs.Numbers.{layer_count}
use Rattle.description.specs.Records.{array_of, layer_of}
use Rattle.description.specs.Parts.{each_layer, head_rechannel_of, parts_of, rechannel_of, site_of, slots_of}
use Rattle.description.specs.Sizes.{place_at, place_of}
use Rattle.description.specs.declared.records.ArrayRecord.{ArrayRecord}
use Rattle.description.specs.declared.records.LayerRecord.{LayerRecord}
use Rattle.description.specs.Part.{Part}
use Rattle.description.specs.declared.places.Place.{Place}
use Rattle.slot.specs.View.{memory_in}
use Rattle.slot.specs.Steps.{pushed}
use Rattle.layer.specs.Column.{applies, applied_site, conv', head1x1', layer1x1', mixin', site'}
use Rattle.layer.specs.Column as column
use Rattle.array.specs.Stages.{Column, first_part, memory_at, next, out, part_at, part_count, stage_count, weights_of_part}
use Rattle.array.specs.Memories.{all_memories, histories_from, positions_from}
use Rattle.demands.specs.Silence.{silence, silent}
use Rattle.demands.proofs.Below.{states_keep}
use Rattle.demands.proofs.Fitting.{AllFit, fit_each, none, read_again}
use Rattle.demands.proofs.Sized.{Sized}
use Rattle.demands.proofs.StageParts.{part_is, parts_are, stage_length, stage_parts}

-- a part's place is in its ring
unfoldable pub InRing : Part → Memory → Type 0
InRing None s = Unit {0}
InRing (Some sh) s = s.place < ring_length sh

-- of parts and their memories, one by one
unfoldable pub AllIn : List Part → List Memory → Type 0
AllIn [] [] = Unit {0}
AllIn [] (s ∷ ss) = ⊥
AllIn (p ∷ ps) [] = ⊥
AllIn (p ∷ ps) (s ∷ ss) = InRing p s × AllIn ps ss

in_at : (ps : List Part) (ss : List Memory) → AllIn ps ss → (i : ℕ) → i < length ps → InRing (get_or ps i None) (get_or ss i none)
unfolding AllIn
in_at [] [] h i l = absurd (not-suc-le-zero l)
in_at [] (s ∷ ss) h i l = absurd h
in_at (p ∷ ps) [] h i l = absurd h
in_at (p ∷ ps) (s ∷ ss) h zero l = h.0
in_at (p ∷ ps) (s ∷ ss) h (suc i) l = in_at ps ss h.1 i (le_of_suc-le-suc l)

in_by : (ps : List Part) (ss : List Memory) → length ss ≡ length ps → ((i : ℕ) → i < length ps → InRing (get_or ps i None) (get_or ss i none)) → AllIn ps ss
unfolding AllIn
in_by [] [] e h = tt
in_by [] (s ∷ ss) e h = omega arith
in_by (p ∷ ps) [] e h = omega arith
in_by (p ∷ ps) (s ∷ ss) e h = (h 0 (omega arith), in_by ps ss (omega arith) (λ i l. h (suc i) (omega arith)))

in_join : (ps qs : List Part) (ss ts : List Memory) → AllIn ps ss → AllIn qs ts → AllIn (ps ++ qs) (ss ++ ts)
unfolding AllIn
in_join [] qs [] ts h g = g
in_join [] qs (s ∷ ss) ts h g = absurd h
in_join (p ∷ ps) qs [] ts h g = absurd h
in_join (p ∷ ps) qs (s ∷ ss) ts h g = (h.0, in_join ps qs ss ts h.1 g)

in_each : (f : ℕ → List Part) (g : ℕ → List Memory) (n : ℕ) → ((k : ℕ) → k < n → AllIn (f k) (g k)) → AllIn (each_layer f n) (each_layer g n)
unfolding each_layer AllIn
in_each f g zero h = tt
in_each f g (suc n) h = in_join (each_layer f n) (f n) (each_layer g n) (g n) (in_each f g n (λ k l. h k (omega arith))) (h n (omega arith))

-- ---- one column
next_in : (len at : ℕ) (b : Bool) → b ≡ ltb (at + 1) len → 0 < len → cond b (at + 1) 0 < len
next_in len at true e h = ltb-true (at + 1) len (sym e)
next_in len at false e h = h

pushed_in : (p : Part) (s : Memory) (x : ℕ → Float) → InRing p s → InRing p (pushed p s x)
unfolding InRing pushed push next_place ring_length
pushed_in None s x h = tt
pushed_in (Some sh) s x h = next_in _ s.place _ refl (omega arith)

pushed_if : (b : Bool) (p : Part) (s : Memory) (x : ℕ → Float) → InRing p s → InRing p (pushed (cond b p None) s x)
unfolding pushed
pushed_if true p s x h = pushed_in p s x h
pushed_if false p s x h = h

module _ (a : ArrayRecord) (r : LayerRecord) (weights : ℕ → List Float) (x condition : ℕ → Float) where
  site_in : (memory : ℕ → Memory) (i : ℕ) → InRing (site_of a r i) (memory (4 + i)) → InRing (site_of a r i) (site' a r weights memory x condition i)
  unfolding site' applied_site
  site_in memory i h = pushed_if (applies a r i) (site_of a r i) (memory (4 + i)) condition h

  after_in : (s : List Memory) → AllIn (slots_of a r) s → AllIn (slots_of a r) (column.after a r weights (memory_at s) x condition)
  unfolding AllIn slots_of column.after conv' mixin' layer1x1' head1x1'
  after_in s h =
      let f : (j : ℕ) → j < 12 → InRing (get_or (slots_of a r) j None) (memory_at s j) = λ j l. in_at (slots_of a r) s h j l in
      let g : (i : ℕ) → InRing (site_of a r i) (memory_at s (4 + i)) → InRing (site_of a r i) (site' a r weights (memory_at s) x condition i) = site_in (memory_at s) in (
        pushed_in _ _ _ (f 0 (omega arith)),
        (
          pushed_in _ _ _ (f 1 (omega arith)),
          (
            pushed_in _ _ _ (f 2 (omega arith)),
            (
              pushed_in _ _ _ (f 3 (omega arith)),
              (
                g 0 (f 4 (omega arith)),
                (
                  g 1 (f 5 (omega arith)),
                  (
                    g 2 (f 6 (omega arith)),
                    (
                      g 3 (f 7 (omega arith)),
                      (
                        g 4 (f 8 (omega arith)),
                        (
                          g 5 (f 9 (omega arith)),
                          (
                            g 6 (f 10 (omega arith)),
                            (
                              g 7 (f 11 (omega arith)),
                              tt,
                            ),
                          ),
                        ),
                      ),
                    ),
                  ),
                ),
              ),
            ),
          ),
        ),
      )

one_in : (p : Part) (s : List Memory) (x : ℕ → Float) → AllIn (p ∷ []) s → AllIn (p ∷ []) (pushed p (memory_at s 0) x ∷ [])
unfolding AllIn
one_in p s x h = (pushed_in p (memory_at s 0) x (in_at (p ∷ []) s h 0 (omega arith)), tt)

-- what the stages remember, in its rings
unfoldable pub Below : List ℕ → (ℕ → List Memory) → Type 0
Below d st = (k : ℕ) → k < stage_count d → AllIn (stage_parts d k) (st k)

module _ (d : List ℕ) (w : List Float) where
  stage_in : (k : ℕ) → k < stage_count d → (s : List Memory) (v : Column) → AllIn (stage_parts d k) s → AllIn (stage_parts d k) (next d w k s v)
  unfolding stage_parts next
  stage_in zero l s v h = one_in (rechannel_of (array_of d)) s (at v.signal) h
  stage_in (suc k) l s v h = by (ltb k (layer_count d)) h
    where
      by : (b : Bool) → AllIn (cond b (slots_of (array_of d) (layer_of d k)) (head_rechannel_of (array_of d) ∷ [])) s
          → AllIn (cond b (slots_of (array_of d) (layer_of d k)) (head_rechannel_of (array_of d) ∷ []))
          (cond b (column.after (array_of d) (layer_of d k) (λ j. weights_of_part d w (1 + 12 * k + j)) (memory_at s) (at v.signal) (at v.condition))
          (pushed (head_rechannel_of (array_of d)) (memory_at s 0) (at v.accumulator) ∷ []))
      by true h = after_in (array_of d) (layer_of d k) (λ j. weights_of_part d w (1 + 12 * k + j)) (at v.signal) (at v.condition) s h
      by false h = one_in (head_rechannel_of (array_of d)) s (at v.accumulator) h

  -- after any columns
  pub after_below : (columns : List Column) (st : ℕ → List Memory) → Below d st → Below d (states_after (next d w) (out d w) st columns)
  unfolding Below
  after_below columns st h = states_keep (next d w) (out d w) (stage_count d) (λ k s. AllIn (stage_parts d k) s) stage_in columns st h

-- ---- a reset
silent_in : (p : Part) → InRing p (silent p)
unfolding InRing silent ring_length
silent_in None = tt
silent_in (Some sh) = omega arith

pub silence_below : (d : List ℕ) → Below d (silence d)
unfolding Below silence
silence_below d k l =
    in_by (stage_parts d k) (tab (part_count d k) (λ j. silent (part_at d (first_part k + j)))) (length-tab (part_count d k) _ ∙ sym (stage_length d k))
    (λ j h. one j (rw (stage_length d k) at h))
  where
    one : (j : ℕ) → j < part_count d k → InRing (get_or (stage_parts d k) j None) (get_or (tab (part_count d k) (λ j. silent (part_at d (first_part k + j)))) j none)
    one j h = rw (at-tab none (part_count d k) (λ j. silent (part_at d (first_part k + j))) j h, ← part_is d k j l h) (silent_in (part_at d (first_part k + j)))

-- ---- the positions, joined end to end
past_end : (ps : List Part) (i : ℕ) (sh : Shape) → get_or ps i None ≡ Some sh → i < length ps
past_end [] i sh e = absurd (let z : ◌≡◌ {A = ℕ} 0 1 = cc in omega arith)
past_end (p ∷ ps) zero sh e = omega arith
past_end (p ∷ ps) (suc i) sh e = let lt = past_end ps i sh e in omega (arith, lt)

place_in_ring : (sh : Shape) (at : Place) (histories : List Float) (positions : List ℕ) (s : Memory) → memory_in (Some sh) at histories positions ≡ s
    → get_or positions at.positions 0 ≡ s.place
unfolding memory_in
place_in_ring sh at histories positions s e = ap (λ (s : Memory). s.place) e

module _ (d : List ℕ) (st : ℕ → List Memory) (sized : Sized d st) (below : Below d st) where
  all_in : AllIn (parts_of d) (all_memories d st)
  unfolding all_memories Below
  all_in = rw (parts_are d) at (in_each (stage_parts d) st (stage_count d) below)

  all_fit : AllFit (parts_of d) (all_memories d st)
  unfolding all_memories
  all_fit = rw (parts_are d) at (fit_each (stage_parts d) st (stage_count d) sized)

  read : (i : ℕ) (sh : Shape) → get_or (parts_of d) i None ≡ Some sh
      → memory_in (Some sh) (place_of (take i (parts_of d))) (histories_from d st) (positions_from d st) ≡ get_or (all_memories d st) i none
  unfolding histories_from positions_from
  read i sh e = rw e at (read_again (parts_of d) (all_memories d st) all_fit i (past_end (parts_of d) i sh e))

  place_in : (i : ℕ) (sh : Shape) → get_or (parts_of d) i None ≡ Some sh → (get_or (all_memories d st) i none).place < ring_length sh
  unfolding InRing
  place_in i sh e = rw e at (in_at (parts_of d) (all_memories d st) all_in i (past_end (parts_of d) i sh e))

  pub places_below : (i : ℕ) (sh : Shape) → get_or (parts_of d) i None ≡ Some sh → get_or (positions_from d st) (place_at d i).positions 0 < ring_length sh
  unfolding place_at
  places_below i sh e = rw (place_in_ring sh _ _ _ _ (read i sh e)) (place_in i sh e)
