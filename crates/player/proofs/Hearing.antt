-- Histories and positions after columns from a reset: a reset makes them so, and a block that is played keeps them so. Assumes nothing.
use Rattle.std.specs.Prelude.{None, Some}
use mathlib.Core.Path.{◌≡◌, refl, sym, ◌∙◌, ap}
use mathlib.Core.List.{List, [], ◌∷◌, ◌++◌}
use Prim.Native.Nat.{ℕ, ◌+◌, ◌<◌}
use native.Mathlib.Nat.{zero-add}
use native.Mathlib.Omega.{arith}
use lib.Ieee.{Float, binary32, of_bits}
use lib.ListN.{get_or, length, length-append, length-replicate}
use borrow.Author.Tests.{eq-eqb}
use Rattle.lists.specs.Tab.{tab}
use Rattle.lists.proofs.Tab.{at-tab, length-tab}
use Rattle.ring.specs.Memory.{Memory}
use Rattle.shape.specs.Counts.{history_count, ring_length}
use Rattle.shape.specs.declared.Shape.{Shape}
use Rattle.turns.specs.Grid.{states_after}
use Rattle.turns.proofs.Numbered.{states_join}
use Rattle.description.specs.Parts.{parts_of}
use Rattle.description.specs.Refusals.{refusal_of}
use Rattle.description.specs.Sizes.{histories_of, place_at, positions_of, sizes_of, total}
use Rattle.description.specs.Part.{Part}
use Rattle.reset.specs.Resets.{Resets, refused7, reset_number}
use Rattle.array.specs.Stages.{Column, first_part, next, out, part_at, part_count, stage_count}
use Rattle.array.specs.Memories.{all_memories, histories_from, histories_joined, memories_of, positions_from, positions_joined}
use Rattle.array.proofs.Views.{histories_are, histories_ext, positions_are, positions_ext}
use Rattle.demands.specs.Silence.{silence, silent}
use Rattle.demands.proofs.Below.{columns_same, states_same}
use Rattle.demands.proofs.Fitting.{AllFit, Fits, fit_by, fit_each, none}
use Rattle.demands.proofs.Kept.{after_sized}
use Rattle.demands.proofs.Silence.{from_reset, reset_histories, reset_positions}
use Rattle.demands.proofs.Sized.{Sized, again}
use Rattle.demands.proofs.StageParts.{part_is, parts_are, stage_length, stage_parts}
use Rattle.player.specs.Plays.{Heard, Plays, columns_held, columns_past, states_past}
use Rattle.player.proofs.InRing.{after_below, places_below, silence_below}

-- ---- a reset
module _ {d : List ℕ} {histories : List Float} {positions : List ℕ} {r : ℕ} {histories' : List Float} {positions' : List ℕ}
    (reset : Resets d histories positions r histories' positions') where
  -- of buffers of the right sizes it is not refused
  pub reset_passes : refusal_of d ≡ 0 → length histories ≡ (sizes_of d).histories → length positions ≡ (sizes_of d).positions → r ≡ 0
  unfolding reset_number refused7 sizes_of
  reset_passes sound h p = rw (sound, eq-eqb _ _ h, eq-eqb _ _ p) at reset.number

  module _ (w : List Float) (ok : r ≡ 0) where
    abbrev st : ℕ → List Memory
    st = memories_of d histories' positions'

    pub reset_heard : Heard d w 0 histories' positions'
    unfolding states_after
    reset_heard = record {
      columns = [];
      counted = refl;
      histories_are = sym (histories_are d histories' positions' (reset_histories reset ok)) ∙ ap (histories_from d) (from_reset reset ok);
      positions_are = sym (positions_are d histories' positions' (reset_positions reset ok)) ∙ ap (positions_from d) (from_reset reset ok);
    }

-- what stages that have heard nothing remember has the sizes of its parts
silent_fits : (p : Part) → Fits p (silent p)
unfolding Fits silent
silent_fits None = refl
silent_fits (Some sh) = length-replicate (history_count sh) (of_bits binary32 0)

silence_sized : (d : List ℕ) → Sized d (silence d)
unfolding silence
silence_sized d k l =
    fit_by (stage_parts d k) (tab (part_count d k) (λ j. silent (part_at d (first_part k + j)))) (length-tab (part_count d k) _ ∙ sym (stage_length d k))
    (λ j h. one j (rw (stage_length d k) at h))
  where
    one : (j : ℕ) → j < part_count d k → Fits (get_or (stage_parts d k) j None) (get_or (tab (part_count d k) (λ j. silent (part_at d (first_part k + j)))) j none)
    one j h = rw (at-tab none (part_count d k) (λ j. silent (part_at d (first_part k + j))) j h, ← part_is d k j l h) (silent_fits (part_at d (first_part k + j)))

-- memories of the right sizes, end to end
history_long : (p : Part) (s : Memory) → Fits p s → length s.history ≡ histories_of p
unfolding Fits histories_of
history_long None s h = ap (λ (s : Memory). length s.history) h
history_long (Some sh) s h = h

histories_long : (ps : List Part) (ss : List Memory) → AllFit ps ss → length (histories_joined ss) ≡ total histories_of ps
unfolding AllFit histories_joined total
histories_long [] [] h = refl
histories_long [] (s ∷ ss) h = absurd h
histories_long (p ∷ ps) [] h = absurd h
histories_long (p ∷ ps) (s ∷ ss) h = length-append s.history (histories_joined ss) ∙ rw (history_long p s h.0, histories_long ps ss h.1)

positions_long : (ps : List Part) (ss : List Memory) → AllFit ps ss → length (positions_joined ps ss) ≡ total positions_of ps
unfolding AllFit positions_joined total positions_of
positions_long [] [] h = refl
positions_long [] (s ∷ ss) h = absurd h
positions_long (p ∷ ps) [] h = absurd h
positions_long (None ∷ ps) (s ∷ ss) h = rw (zero-add) (positions_long ps ss h.1)
positions_long (Some sh ∷ ps) (s ∷ ss) h = let e = positions_long ps ss h.1 in omega (arith, e)

module _ (d : List ℕ) (st : ℕ → List Memory) (sized : Sized d st) where
  all_fit : AllFit (parts_of d) (all_memories d st)
  unfolding all_memories
  all_fit = rw (parts_are d) at (fit_each (stage_parts d) st (stage_count d) sized)

  length_histories : length (histories_from d st) ≡ total histories_of (parts_of d)
  unfolding histories_from
  length_histories = histories_long (parts_of d) (all_memories d st) all_fit

  length_positions : length (positions_from d st) ≡ total positions_of (parts_of d)
  unfolding positions_from
  length_positions = positions_long (parts_of d) (all_memories d st) all_fit

module _ {d : List ℕ} {w : List Float} {count : ℕ} {histories : List Float} {positions : List ℕ} (heard : Heard d w count histories positions) where
  -- what the stages remember then
  abbrev now : ℕ → List Memory
  now = states_past d w (silence d) heard.columns

  sized : Sized d now
  sized = after_sized d w heard.columns (silence d) (silence_sized d)

  -- read from the buffers, it is the same
  pub same : (k : ℕ) → k < stage_count d → memories_of d histories positions k ≡ now k
  same k l = rw (heard.histories_are, heard.positions_are) (again d now sized k l)

  pub heard_places : (i : ℕ) (sh : Shape) → get_or (parts_of d) i None ≡ Some sh → get_or positions (place_at d i).positions 0 < ring_length sh
  heard_places i sh e = rw heard.positions_are (places_below d now sized (after_below d w heard.columns (silence d) (silence_below d)) i sh e)

  pub heard_histories : length histories ≡ (sizes_of d).histories
  unfolding sizes_of
  heard_histories = ap length heard.histories_are ∙ length_histories d now sized

  pub heard_positions : length positions ≡ (sizes_of d).positions
  unfolding sizes_of
  heard_positions = ap length heard.positions_are ∙ length_positions d now sized

  -- what columns come to from the buffers, they come to from the stages' memories
  pub columns_from_now : (columns : List Column) → columns_past d w (memories_of d histories positions) columns ≡ columns_past d w now columns
  columns_from_now columns = columns_same (next d w) (out d w) (stage_count d) columns (memories_of d histories positions) now same

  -- a block more
  pub heard_more : {bytes : List ℕ} {n first : ℕ} {text : List ℕ} {r : ℕ} {histories' : List Float} {positions' text' : List ℕ}
      → Plays d w bytes n first histories positions text r histories' positions' text' → Heard d w (count + n) histories' positions'
  unfolding columns_held
  heard_more {bytes} {n} p =
      let more = columns_held d bytes n in
      let after = states_same (next d w) (out d w) (stage_count d) more (memories_of d histories positions) now same in
      let join = sym (states_join (next d w) (out d w) (silence d) heard.columns more) in
      record {
        columns = heard.columns ++ more;
        counted = length-append heard.columns more ∙ rw (heard.counted, length-tab n _);
        histories_are =
            p.histories_are
            ∙ histories_ext d (states_past d w (memories_of d histories positions) more) (states_past d w now more) after
            ∙ ap (histories_from d) join;
        positions_are =
            p.positions_are
            ∙ positions_ext d (states_past d w (memories_of d histories positions) more) (states_past d w now more) after
            ∙ ap (positions_from d) join;
      }
