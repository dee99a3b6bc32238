-- Where the parts' numbers lie: one after the other, none in common. So what one stage changes leaves the memories of all others. Assumes nothing.
use Rattle.std.specs.Prelude.{None}
use mathlib.Core.Path.{◌≡◌}
use mathlib.Core.List.{List, []}
use mathlib.Core.Logic.{◌⊎◌, inl, inr, ⊎_elim}
use mathlib.Core.Bool.{Bool, true, false, cond}
use lib.Dec.{ltb}
use borrow.Author.Tests.{lt-ltb, le-ltb}
use Prim.Native.Nat.{ℕ, zero, suc, ◌+◌, ◌*◌, ◌≤◌, ◌<◌}
use native.Mathlib.Nat.{not-suc-le-zero}
use native.Mathlib.Omega.{arith}
use lib.ListN.{length, get_or, take, get_or-eq_default}
use lib.Ieee.{Float, nan}
use Rattle.lists.specs.Region.{Free}
use Rattle.lists.proofs.Nums.{le_or_lt}
use Rattle.lists.proofs.Tab.{tab_ext}
use Rattle.description.specs.Numbers.{layer_count}
use Rattle.description.specs.Parts.{parts_of}
use Rattle.description.specs.Sizes.{histories_of, positions_of, total, place_of, place_at}
use Rattle.description.specs.Part.{Part}
use Rattle.slot.specs.View.{memory_in}
use Rattle.slot.proofs.Trace.{memory_kept}
use Rattle.layer.proofs.Places.{total_more, total_mono, total_le}
use Rattle.array.specs.Stages.{part_at, first_part, part_count, stage_count}
use Rattle.description.proofs.Sound.{length-parts}
use Rattle.array.specs.Turn.{OutsideHistories, OutsidePositions}
use Rattle.array.specs.Memories.{memory_of_part, memories_of}

-- ---- stages
pub first_mono : (j k : ℕ) → j ≤ k → first_part j ≤ first_part k
unfolding first_part
first_mono zero zero h = omega arith
first_mono zero (suc k) h = omega arith
first_mono (suc j) zero h = absurd (not-suc-le-zero h)
first_mono (suc j) (suc k) h = omega arith

count_cases : (b : Bool) → cond b 12 1 ≤ 12
count_cases true = omega arith
count_cases false = omega arith

-- a stage's parts end before the next one's begin
pub parts_end : (d : List ℕ) (j : ℕ) → first_part j + part_count d j ≤ first_part (suc j)
unfolding first_part part_count
parts_end d zero = omega arith
parts_end d (suc l) = omega (arith, count_cases (ltb l (layer_count d)))

-- and are parts of the description
pub parts_in : (d : List ℕ) (j : ℕ) → j < stage_count d → first_part j + part_count d j ≤ length (parts_of d)
unfolding first_part part_count
parts_in d zero h = omega (arith, length-parts d)
parts_in d (suc l) h =
    ⊎_elim
    (λ (q : layer_count d ≤ l). rw (le-ltb l (layer_count d) q) (omega (arith, length-parts d)))
    (λ (q : l < layer_count d). rw (lt-ltb l (layer_count d) q) (omega (arith, length-parts d)))
    (le_or_lt (layer_count d) l)

first_last : (d : List ℕ) → 12 * layer_count d + 2 ≤ first_part (stage_count d)
unfolding first_part
first_last d = let e : layer_count d + 2 ≡ suc (layer_count d + 1) = omega arith in rw e (omega arith)

-- past the last stage there are no parts
beyond_same : (d : List ℕ) (j : ℕ) → stage_count d ≤ j → (histories histories' : List Float) (positions positions' : List ℕ)
    → memories_of d histories' positions' j ≡ memories_of d histories positions j
unfolding memories_of memory_of_part part_at memory_in
beyond_same d j l histories histories' positions positions' =
    tab_ext (record { history = []; place = 0 }) (part_count d j) _ _ (λ i h.
    let far : length (parts_of d) ≤ first_part j + i = omega (arith, length-parts d, first_mono (stage_count d) j l, first_last d) in
    rw (get_or-eq_default (parts_of d) None far))

module _ (d : List ℕ) (k : ℕ) (histories histories' : List Float) (positions positions' : List ℕ)
    (long : total histories_of (parts_of d) ≤ length histories)
    (kept : Free nan (OutsideHistories d k) histories histories') (kept_places : Free 0 (OutsidePositions d k) positions positions') where
  -- part i of another stage
  part_kept : (j i : ℕ) → (j ≡ k → ⊥) → j < stage_count d → first_part j ≤ i → i < first_part j + part_count d j
      → memory_of_part d histories' positions' i ≡ memory_of_part d histories positions i
  unfolding memory_of_part part_at place_at place_of
  part_kept j i ne h lo hi =
      let ps = parts_of d in
      let inside : i < length ps = omega (arith, parts_in d j h) in
      let more = total_more histories_of ps i inside in
      let more' = total_more positions_of ps i inside in
      let whole = total_le histories_of ps (suc i) in
      let where-is : (f : Part → ℕ) → (total f (take (suc i) ps) ≤ total f (take (first_part k) ps)) ⊎ (total f (take (first_part (suc k)) ps) ≤ total f (take i ps)) =
      λ f. ⊎_elim
      (λ (l : suc j ≤ k). inl (total_mono f ps (suc i) (first_part k) (omega (arith, parts_end d j, first_mono (suc j) k l))))
      (λ (l : k < suc j). inr (total_mono f ps (first_part (suc k)) i (omega (arith, first_mono (suc k) j (omega (arith, l, lt_of k j l ne))))))
      (le_or_lt (suc j) k) in
      memory_kept kept kept_places (get_or ps i None) _
      (omega (arith, more, whole, long))
      (λ n a b. ⊎_elim (λ l. omega (arith, more, a, b, l)) (λ l. omega (arith, more, a, b, l)) (where-is histories_of))
      (λ n a b. ⊎_elim (λ l. omega (arith, more', a, b, l)) (λ l. omega (arith, more', a, b, l)) (where-is positions_of))
    where
      lt_of : (k j : ℕ) → k < suc j → (j ≡ k → ⊥) → k < j
      lt_of k j l ne = ⊎_elim (λ (q : j ≤ k). absurd (ne (omega arith))) (λ (q : k < j). q) (le_or_lt j k)

  -- what another stage remembers is kept
  pub stage_kept : (j : ℕ) → (j ≡ k → ⊥) → j < stage_count d → memories_of d histories' positions' j ≡ memories_of d histories positions j
  unfolding memories_of
  stage_kept j ne h =
      tab_ext (record { history = []; place = 0 }) (part_count d j) _ _ (λ i l. part_kept j (first_part j + i) ne h (omega arith) (omega (arith, l)))

  -- also past the last stage, where there is nothing to remember
  pub every_stage_kept : (j : ℕ) → (j ≡ k → ⊥) → memories_of d histories' positions' j ≡ memories_of d histories positions j
  every_stage_kept j ne = ⊎_elim (λ (l : stage_count d ≤ j). nothing j l) (λ (l : j < stage_count d). stage_kept j ne l) (le_or_lt (stage_count d) j)
    where
      nothing : (j : ℕ) → stage_count d ≤ j → memories_of d histories' positions' j ≡ memories_of d histories positions j
      nothing j l = beyond_same d j l histories histories' positions positions'
