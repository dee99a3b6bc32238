-- The memories of all parts, joined end to end, are the histories and the positions that they were read from. Assumes nothing.
use Rattle.std.specs.Prelude.{None, Some}
use mathlib.Core.Path.{◌≡◌, refl, sym, ◌∙◌, ap}
use mathlib.Core.List.{List, [], ◌∷◌, ◌++◌, append_assoc, append-nil}
use Prim.Native.Nat.{ℕ, zero, suc, ◌+◌, ◌*◌, ◌≤◌, ◌<◌}
use native.Mathlib.Nat.{add-zero, zero-add, suc-add}
use native.Mathlib.Numerals.{add-one}
use borrow.Author.Tests.{lt-ltb, le-ltb}
use native.Mathlib.Omega.{arith}
use lib.ListN.{length, get_or, take, drop}
use lib.Seq.{take-add, drop-drop, drop-cons, take-length}
use lib.Ieee.{Float}
use Rattle.lists.specs.Part.{part}
use Rattle.lists.specs.Tab.{tab}
use Rattle.lists.proofs.Tab.{tab_ext}
use Rattle.ring.specs.Memory.{Memory}
use Rattle.shape.specs.Counts.{history_count}
use Rattle.description.specs.Numbers.{layer_count}
use Rattle.description.specs.Parts.{each_layer, parts_of}
use Rattle.description.specs.Sizes.{weights_of, histories_of, positions_of, total, place_of, place_at, past_of}
use Rattle.description.specs.Part.{Part}
use Rattle.description.specs.declared.places.Place.{Place}
use Rattle.description.proofs.Sound.{length-parts}
use Rattle.slot.specs.View.{memory_in}
use Rattle.array.specs.Stages.{part_at, part_count, first_part, stage_count}
use Rattle.array.specs.Memories.{memory_of_part, memories_of, all_memories, histories_joined, positions_joined, histories_from, positions_from}

module _ (histories : List Float) (positions : List ℕ) where
  -- the memories of parts that start at a place, one after the other
  unfoldable pub views_from : Place → List Part → List Memory
  views_from at [] = []
  views_from at (p ∷ ps) = memory_in p at histories positions ∷ views_from (past_of at p) ps

  -- n numbers and the k after them
  part_join : (a n k : ℕ) (l : List Float) → part a n l ++ part (a + n) k l ≡ part a (n + k) l
  part_join a n k l = rw (take-add n k (drop a l), drop-drop n a l)

  pub histories_joined_are : (at : Place) (ps : List Part) → histories_joined (views_from at ps) ≡ part at.histories (total histories_of ps) histories
  unfolding views_from histories_joined total histories_of memory_in past_of
  histories_joined_are at [] = refl
  histories_joined_are at (None ∷ ps) = rw (zero-add, histories_joined_are (past_of at None) ps, add-zero)
  histories_joined_are at (Some sh ∷ ps) = rw (histories_joined_are (past_of at (Some sh)) ps) (part_join at.histories (history_count sh) (total histories_of ps) histories)

  one_more : (i k : ℕ) (l : List ℕ) → i < length l → get_or l i 0 ∷ part (i + 1) k l ≡ part i (1 + k) l
  one_more i k l h = let e : 1 + k ≡ suc k = omega arith in rw (drop-cons l i 0 h, e, add-one i)

  pub positions_joined_are : (at : Place) (ps : List Part) → at.positions + total positions_of ps ≤ length positions
      → positions_joined ps (views_from at ps) ≡ part at.positions (total positions_of ps) positions
  unfolding views_from positions_joined total positions_of memory_in past_of
  positions_joined_are at [] h = refl
  positions_joined_are at (None ∷ ps) h = rw (zero-add) (positions_joined_are (past_of at None) ps (omega arith) ∙ ap (λ (i : ℕ). part i (total positions_of ps) positions) (add-zero at.positions))
  positions_joined_are at (Some sh ∷ ps) h =
      ap (λ (l : List ℕ). get_or positions at.positions 0 ∷ l) (positions_joined_are (past_of at (Some sh)) ps (omega arith))
      ∙ one_more at.positions (total positions_of ps) positions (omega arith)

-- ---- the memories by part number are those, one after the other
total-append : (f : Part → ℕ) (ps qs : List Part) → total f (ps ++ qs) ≡ total f ps + total f qs
unfolding total
total-append f [] qs = sym (zero-add _)
total-append f (p ∷ ps) qs = rw (total-append f ps qs) (omega arith)

one_total : (f : Part → ℕ) (p : Part) → total f (p ∷ []) ≡ f p
unfolding total
one_total f p = add-zero (f p)

-- the place past one part more
place_more : (before : List Part) (p : Part) → place_of (before ++ p ∷ []) ≡ past_of (place_of before) p
unfolding place_of past_of
place_more before p =
    let one : (f : Part → ℕ) → total f (before ++ p ∷ []) ≡ total f before + f p = λ f. total-append f before (p ∷ []) ∙ ap (λ (n : ℕ). total f before + n) (one_total f p) in
    rw (one weights_of, one histories_of, one positions_of)

-- no memory, which stands past the end of a list of them
abbrev none : Memory
none = record { history = []; place = 0 }

module _ (histories : List Float) (positions : List ℕ) where
  -- part i of ps, where the parts `before` came first
  by_number : (before ps : List Part) → tab (length ps) (λ i. memory_in (get_or ps i None) (place_of (before ++ take i ps)) histories positions)
      ≡ views_from histories positions (place_of before) ps
  unfolding tab views_from
  by_number before [] = refl
  by_number before (p ∷ ps) =
      let tail : tab (length ps) (λ i. memory_in (get_or ps i None) (place_of (before ++ p ∷ take i ps)) histories positions)
      ≡ views_from histories positions (past_of (place_of before) p) ps =
      tab_ext none (length ps) _ (λ i. memory_in (get_or ps i None) (place_of ((before ++ p ∷ []) ++ take i ps)) histories positions)
      (λ i h. ap (λ (l : List Part). memory_in (get_or ps i None) (place_of l) histories positions) (sym (append_assoc before (p ∷ []) (take i ps))))
      ∙ by_number (before ++ p ∷ []) ps
      ∙ ap (λ (at : Place). views_from histories positions at ps) (place_more before p) in
      rw append-nil (ap (λ (l : List Memory). memory_in p (place_of before) histories positions ∷ l) tail)

-- ---- stage by stage
-- a table in two stretches
pub tab_join : {A : Type 0} (none : A) (n m : ℕ) (f : ℕ → A) → tab (n + m) f ≡ tab n f ++ tab m (λ j. f (n + j))
unfolding tab
tab_join none zero m f = rw (zero-add m) (tab_ext none m f (λ j. f (0 + j)) (λ j h. ap f (sym (zero-add j))))
tab_join none (suc n) m f =
    rw (suc-add n m)
    (ap (λ l. f 0 ∷ l)
    (tab_join none n m (λ i. f (suc i))
    ∙ ap (λ l. tab n (λ i. f (suc i)) ++ l) (tab_ext none m (λ j. f (suc (n + j))) (λ j. f (suc n + j)) (λ j h. ap f (sym (suc-add n j))))))

module _ {A : Type 0} (none : A) (d : List ℕ) (g : ℕ → A) where
  -- the table of stage k
  abbrev stage : ℕ → List A
  stage k = tab (part_count d k) (λ j. g (first_part k + j))

  first : stage 0 ≡ tab (1 + 12 * 0) g
  unfolding part_count first_part
  first = tab_ext none 1 (λ j. g (0 + j)) g (λ j l. ap g (zero-add j))

  layer_table : (l : ℕ) → suc l ≤ layer_count d → stage (suc l) ≡ tab 12 (λ j. g (1 + 12 * l + j))
  unfolding part_count first_part
  layer_table l h = rw (lt-ltb l (layer_count d) h)

  last : stage (suc (layer_count d)) ≡ tab 1 (λ j. g (1 + 12 * layer_count d + j))
  unfolding part_count first_part
  last = rw (le-ltb (layer_count d) (layer_count d) (omega arith))

  -- the tables of the rechannel and l layers, end to end, are one table
  stages_table : (l : ℕ) → l ≤ layer_count d → each_layer (λ k. stage k) (suc l) ≡ tab (1 + 12 * l) g
  unfolding each_layer
  stages_table zero h = first
  stages_table (suc l) h =
      ap (λ t. t ++ stage (suc l)) (stages_table l (omega arith))
      ∙ ap (λ t. tab (1 + 12 * l) g ++ t) (layer_table l h)
      ∙ sym (tab_join none (1 + 12 * l) 12 g)
      ∙ ap (λ (n : ℕ). tab n g) (omega arith)

  pub all_stages : each_layer (λ k. stage k) (stage_count d) ≡ tab (length (parts_of d)) g
  unfolding each_layer
  all_stages =
      let n = layer_count d in
      let two : n + 2 ≡ suc (suc n) = omega arith in
      ap (λ (k : ℕ). each_layer (λ k. stage k) k) two
      ∙ ap (λ t. t ++ stage (suc n)) (stages_table n (omega arith))
      ∙ ap (λ t. tab (1 + 12 * n) g ++ t) last
      ∙ sym (tab_join none (1 + 12 * n) 1 g)
      ∙ ap (λ (k : ℕ). tab k g) (omega (arith, length-parts d))

-- ---- the whole
module _ (d : List ℕ) (histories : List Float) (positions : List ℕ) where
  every_part : all_memories d (memories_of d histories positions) ≡ views_from histories positions (place_of []) (parts_of d)
  unfolding all_memories memories_of memory_of_part part_at place_at
  every_part = all_stages none d (λ i. memory_of_part d histories positions i) ∙ by_number histories positions [] (parts_of d)

  -- what the stages remember, put end to end, is what it was read from
  pub histories_are : length histories ≡ total histories_of (parts_of d) → histories_from d (memories_of d histories positions) ≡ histories
  unfolding histories_from place_of total
  histories_are h =
      ap histories_joined every_part
      ∙ histories_joined_are histories positions (place_of []) (parts_of d)
      ∙ ap (λ (n : ℕ). take n histories) (sym h)
      ∙ take-length histories

  pub positions_are : length positions ≡ total positions_of (parts_of d) → positions_from d (memories_of d histories positions) ≡ positions
  unfolding positions_from place_of total
  positions_are h =
      ap (positions_joined (parts_of d)) every_part
      ∙ positions_joined_are histories positions (place_of []) (parts_of d) (omega (arith, h))
      ∙ ap (λ (n : ℕ). take n positions) (sym h)
      ∙ take-length positions

-- stages that remember the same leave the same
each_ext : {A : Type 0} (f g : ℕ → List A) (n : ℕ) → ((k : ℕ) → k < n → f k ≡ g k) → each_layer f n ≡ each_layer g n
unfolding each_layer
each_ext f g zero h = refl
each_ext f g (suc n) h = rw (each_ext f g n (λ k l. h k (omega arith)), h n (omega arith))

module _ (d : List ℕ) (st st' : ℕ → List Memory) (same : (k : ℕ) → k < stage_count d → st k ≡ st' k) where
  pub histories_ext : histories_from d st ≡ histories_from d st'
  unfolding histories_from all_memories
  histories_ext = ap histories_joined (each_ext st st' (stage_count d) same)

  pub positions_ext : positions_from d st ≡ positions_from d st'
  unfolding positions_from all_memories
  positions_ext = ap (positions_joined (parts_of d)) (each_ext st st' (stage_count d) same)
