-- The parts of a description, stage by stage. Assumes nothing.
use Rattle.std.specs.Prelude.{None}
use mathlib.Core.Path.{◌≡◌, refl, sym, ◌∙◌, ap}
use mathlib.Core.Bool.{Bool, true, false, cond}
use mathlib.Core.List.{List, [], ◌∷◌, ◌++◌}
use Prim.Native.Nat.{ℕ, zero, suc, ◌+◌, ◌≤◌, ◌<◌}
use native.Mathlib.Omega.{arith}
use lib.Dec.{ltb}
use lib.ListN.{length, get_or}
use borrow.Author.Tests.{lt-ltb, le-ltb}
use Rattle.description.specs.Numbers.{layer_count}
use Rattle.description.specs.Records.{array_of, layer_of}
use Rattle.description.specs.Parts.{each_layer, slots_of, parts_to, parts_of, rechannel_of, head_rechannel_of}
use Rattle.description.specs.declared.records.ArrayRecord.{ArrayRecord}
use Rattle.description.specs.declared.records.LayerRecord.{LayerRecord}
use Rattle.description.specs.Part.{Part}
use Rattle.array.specs.Stages.{part_at, first_part, part_count, stage_count}
use Rattle.demands.proofs.Fitting.{each_more, each_at}

-- the parts of stage k
unfoldable pub stage_parts : List ℕ → ℕ → List Part
stage_parts d zero = rechannel_of (array_of d) ∷ []
stage_parts d (suc l) = cond (ltb l (layer_count d)) (slots_of (array_of d) (layer_of d l)) (head_rechannel_of (array_of d) ∷ [])

module _ (d : List ℕ) where
  layer_parts : (l : ℕ) → l < layer_count d → stage_parts d (suc l) ≡ slots_of (array_of d) (layer_of d l)
  unfolding stage_parts
  layer_parts l h = rw (lt-ltb l (layer_count d) h)

  last_parts : (l : ℕ) → layer_count d ≤ l → stage_parts d (suc l) ≡ head_rechannel_of (array_of d) ∷ []
  unfolding stage_parts
  last_parts l h = rw (le-ltb l (layer_count d) h)

  parts_to_are : (l : ℕ) → l ≤ layer_count d → each_layer (stage_parts d) (suc l) ≡ parts_to d l
  unfolding each_layer parts_to stage_parts
  parts_to_are zero h = refl
  parts_to_are (suc l) h = ap (λ ps. ps ++ stage_parts d (suc l)) (parts_to_are l (omega arith)) ∙ ap (λ ps. parts_to d l ++ ps) (layer_parts l h)

  pub parts_are : each_layer (stage_parts d) (stage_count d) ≡ parts_of d
  unfolding each_layer parts_of
  parts_are =
      let two : layer_count d + 2 ≡ suc (suc (layer_count d)) = omega arith in
      ap (λ (n : ℕ). each_layer (stage_parts d) n) two
      ∙ ap (λ ps. ps ++ stage_parts d (suc (layer_count d))) (parts_to_are (layer_count d) (omega arith))
      ∙ ap (λ ps. parts_to d (layer_count d) ++ ps) (last_parts (layer_count d) (omega arith))

  count_by : (b : Bool) (a : ArrayRecord) (r : LayerRecord) → length (cond b (slots_of a r) (head_rechannel_of a ∷ [])) ≡ cond b 12 1
  unfolding slots_of
  count_by true a r = refl
  count_by false a r = refl

  pub stage_length : (k : ℕ) → length (stage_parts d k) ≡ part_count d k
  unfolding stage_parts part_count
  stage_length zero = refl
  stage_length (suc l) = count_by (ltb l (layer_count d)) (array_of d) (layer_of d l)

  -- stages of the right lengths: those before stage k have as many as the number of its first part
  pub first_at : {A : Type 0} (f : ℕ → List A) → ((k : ℕ) → k < stage_count d → length (f k) ≡ part_count d k) → (k : ℕ) → k < stage_count d
      → length (each_layer f k) ≡ first_part k
  unfolding each_layer first_part part_count
  first_at f h zero l = refl
  first_at f h (suc zero) l = h 0 (omega arith)
  first_at f h (suc (suc k)) l =
      let lt : k < layer_count d = omega arith in
      let twelve : length (f (suc k)) ≡ 12 = rw (lt-ltb k (layer_count d) lt) at (h (suc k) (omega arith)) in
      omega (arith, each_more f (suc k), first_at f h (suc k) (omega arith), twelve)

  -- part j of stage k, by its number
  pub part_is : (k j : ℕ) → k < stage_count d → j < part_count d k → part_at d (first_part k + j) ≡ get_or (stage_parts d k) j None
  unfolding part_at
  part_is k j l lt =
      ap (λ (i : ℕ). get_or (parts_of d) (i + j) None) (sym (first_at (stage_parts d) (λ k l. stage_length k) k l))
      ∙ ap (λ (ps : List Part). get_or ps (length (each_layer (stage_parts d) k) + j) None) (sym parts_are)
      ∙ each_at (stage_parts d) None (stage_count d) k j l (rw (stage_length k) lt)
