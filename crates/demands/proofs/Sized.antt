-- What the stages of an array remember has the sizes of its parts. So histories and positions that are the stages' memories end to end, read again,
-- are those memories. Assumes nothing.
use Rattle.std.specs.Prelude.{None, Some}
use mathlib.Core.Path.{◌≡◌, refl, sym, ◌∙◌, ap}
use mathlib.Core.List.{List}
use Prim.Native.Nat.{ℕ, ◌+◌, ◌≤◌, ◌<◌}
use native.Mathlib.Omega.{arith}
use lib.ListN.{length, get_or}
use lib.Ieee.{Float}
use Rattle.lists.specs.Tab.{tab}
use Rattle.lists.proofs.Tab.{length-tab, at-tab, is_tab}
use Rattle.lists.proofs.Parts.{length_part}
use Rattle.ring.specs.Memory.{Memory}
use Rattle.shape.specs.Counts.{history_count}
use Rattle.description.specs.Parts.{each_layer, parts_of}
use Rattle.description.specs.Sizes.{histories_of, total, place_of, place_at}
use Rattle.description.specs.Part.{Part}
use Rattle.description.specs.declared.places.Place.{Place}
use Rattle.description.proofs.Sound.{within}
use Rattle.slot.specs.View.{memory_in}
use Rattle.array.specs.Stages.{part_at, first_part, part_count, stage_count}
use Rattle.array.specs.Memories.{memory_of_part, memories_of, all_memories, histories_from, positions_from}
use Rattle.array.proofs.Places.{parts_in}
use Rattle.demands.proofs.Fitting.{none, Fits, AllFit, fit_length, fit_by, fit_each, each_at, read_again}
use Rattle.demands.proofs.StageParts.{stage_parts, parts_are, stage_length, first_at, part_is}

-- what the stages remember has the sizes of their parts
abbrev pub Sized : List ℕ → (ℕ → List Memory) → Type 0
Sized d st = (k : ℕ) → k < stage_count d → AllFit (stage_parts d k) (st k)

memory_fits : (p : Part) (place : Place) (histories : List Float) (positions : List ℕ) → place.histories + histories_of p ≤ length histories
    → Fits p (memory_in p place histories positions)
unfolding Fits memory_in histories_of
memory_fits None place histories positions h = refl
memory_fits (Some sh) place histories positions h = length_part place.histories (history_count sh) histories h

part_within : (d : List ℕ) (i : ℕ) → (place_at d i).histories + histories_of (part_at d i) ≤ total histories_of (parts_of d)
unfolding place_at place_of part_at histories_of
part_within d i = within histories_of refl (parts_of d) i

-- what histories of the right length hold
pub memories_sized : (d : List ℕ) (histories : List Float) (positions : List ℕ) → length histories ≡ total histories_of (parts_of d)
    → Sized d (memories_of d histories positions)
unfolding memories_of
memories_sized d histories positions long k l =
    fit_by (stage_parts d k) (tab (part_count d k) (λ j. memory_of_part d histories positions (first_part k + j))) (length-tab (part_count d k) _ ∙ sym (stage_length d k))
    (λ j h. one j (rw (stage_length d k) at h))
  where
    one : (j : ℕ) → j < part_count d k
        → Fits (get_or (stage_parts d k) j None) (get_or (tab (part_count d k) (λ j. memory_of_part d histories positions (first_part k + j))) j none)
    one j h = rw (at-tab none (part_count d k) (λ j. memory_of_part d histories positions (first_part k + j)) j h, ← part_is d k j l h)
        (unfold memory_of_part in memory_fits (part_at d (first_part k + j)) (place_at d (first_part k + j)) histories positions (rw long (part_within d (first_part k + j))))

module _ (d : List ℕ) (st : ℕ → List Memory) (sized : Sized d st) where
  all_fit : AllFit (parts_of d) (all_memories d st)
  unfolding all_memories
  all_fit = rw (parts_are d) at (fit_each (stage_parts d) st (stage_count d) sized)

  pub stages_long : (k : ℕ) → k < stage_count d → length (st k) ≡ part_count d k
  stages_long k l = fit_length (stage_parts d k) (st k) (sized k l) ∙ stage_length d k

  memory_again : (k j : ℕ) → k < stage_count d → j < part_count d k
      → get_or (st k) j none ≡ memory_of_part d (histories_from d st) (positions_from d st) (first_part k + j)
  unfolding memory_of_part histories_from positions_from part_at place_at
  memory_again k j l h =
      sym (each_at st none (stage_count d) k j l (rw (stages_long k l) h))
      ∙ ap (λ (i : ℕ). get_or (each_layer st (stage_count d)) (i + j) none) (first_at d st stages_long k l)
      ∙ sym (unfold all_memories in read_again (parts_of d) (all_memories d st) all_fit (first_part k + j) (omega (arith, parts_in d k l)))

  -- memories joined end to end and read again
  pub again : (k : ℕ) → k < stage_count d → memories_of d (histories_from d st) (positions_from d st) k ≡ st k
  unfolding memories_of
  again k l = sym (is_tab none (st k) (part_count d k) _ (stages_long k l) (λ j h. memory_again k j l h))
