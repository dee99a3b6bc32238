-- A reset leaves what stages that have heard nothing remember. Assumes nothing.
use Rattle.std.specs.Prelude.{None, Some}
use mathlib.Core.Path.{◌≡◌, refl, sym, ◌∙◌, ap, fun_ext}
use mathlib.Core.List.{List, [], ◌∷◌}
use Prim.Native.Nat.{ℕ, zero, suc, ◌+◌, ◌-◌, ◌≤◌}
use native.Mathlib.Nat.{zero-add}
use native.Mathlib.Omega.{arith}
use lib.ListN.{length, get_or, take, replicate, length-append, length-replicate, get_or-replicate}
use lib.Seq.{ext_get_or}
use lib.Ieee.{Float, binary32, of_bits, nan}
use borrow.Author.Tests.{eq-eqb}
use Rattle.lists.specs.Part.{part}
use Rattle.lists.proofs.Parts.{length_part, at_part}
use Rattle.lists.proofs.Tab.{tab_ext}
use Rattle.shape.specs.Counts.{ring_length, history_count}
use Rattle.shape.specs.declared.Shape.{Shape}
use Rattle.description.specs.Parts.{parts_of}
use Rattle.description.specs.Sizes.{histories_of, positions_of, total, place_of, place_at}
use Rattle.description.specs.Part.{Part}
use Rattle.description.proofs.Sound.{within}
use Rattle.slot.specs.View.{memory_in}
use Rattle.reset.specs.Resets.{Resets, start_of, starts_of, silence_of}
use Rattle.array.specs.Stages.{part_at, first_part, part_count}
use Rattle.array.specs.Memories.{memory_of_part, memories_of}
use Rattle.demands.specs.Silence.{silent, silence}
use Rattle.demands.proofs.Fitting.{none}

length_start : (p : Part) → length (start_of p) ≡ positions_of p
unfolding start_of positions_of
length_start None = refl
length_start (Some sh) = refl

length_starts : (ps : List Part) → length (starts_of ps) ≡ total positions_of ps
unfolding starts_of total
length_starts [] = refl
length_starts (p ∷ ps) = length-append (start_of p) (starts_of ps) ∙ rw (length_start p, length_starts ps)

-- the position of part i
start_at : (ps : List Part) (i : ℕ) (sh : Shape) → get_or ps i None ≡ Some sh → get_or (starts_of ps) (total positions_of (take i ps)) 0 ≡ ring_length sh - 1
unfolding starts_of start_of total positions_of
start_at [] i sh e = absurd (let z : ◌≡◌ {A = ℕ} 0 1 = cc in omega arith)
start_at (None ∷ ps) zero sh e = absurd (let z : ◌≡◌ {A = ℕ} 0 1 = cc in omega arith)
start_at (Some sh' ∷ ps) zero sh e = let q : sh' ≡ sh = cc in ap (λ (s : Shape). ring_length s - 1) q
start_at (None ∷ ps) (suc i) sh e = rw zero-add (start_at ps i sh e)
start_at (Some sh' ∷ ps) (suc i) sh e =
    let one : 1 + total positions_of (take i ps) ≡ suc (total positions_of (take i ps)) = omega arith in rw one (start_at ps i sh e)

-- a part of silence
part-silent : (a n m : ℕ) → a + n ≤ m → part a n (silence_of m) ≡ replicate n (of_bits binary32 0)
unfolding silence_of
part-silent a n m h =
    let zeros : List Float = replicate m (of_bits binary32 0) in
    let long : length (part a n zeros) ≡ n = length_part a n zeros (rw (length-replicate m (of_bits binary32 0)) h) in
    ext_get_or nan (part a n zeros) (replicate n (of_bits binary32 0)) (long ∙ sym (length-replicate n (of_bits binary32 0))) (λ i l.
    at_part nan a n i zeros (rw long at l)
    ∙ get_or-replicate m (a + i) (of_bits binary32 0) nan (omega (arith, rw long at l))
    ∙ sym (get_or-replicate n i (of_bits binary32 0) nan (rw long at l)))

module _ (d : List ℕ) where
  abbrev starts : List ℕ
  starts = starts_of (parts_of d)

  abbrev zeros : List Float
  zeros = silence_of (total histories_of (parts_of d))

  part_by : (p : Part) (i : ℕ) → part_at d i ≡ p → memory_in p (place_at d i) zeros starts ≡ silent p
  unfolding memory_in silent part_at place_at place_of
  part_by None i e = refl
  part_by (Some sh) i e = rw (start_at (parts_of d) i sh e, part-silent (total histories_of (take i (parts_of d))) (history_count sh) (total histories_of (parts_of d)) (fits i sh e))
    where
      fits : (i : ℕ) (sh : Shape) → get_or (parts_of d) i None ≡ Some sh → total histories_of (take i (parts_of d)) + history_count sh ≤ total histories_of (parts_of d)
      fits i sh e = unfold histories_of in rw e at (within histories_of refl (parts_of d) i)

  memories_silent : (k : ℕ) → memories_of d zeros starts k ≡ silence d k
  unfolding memories_of memory_of_part silence
  memories_silent k = tab_ext none (part_count d k) _ _ (λ j h. part_by (part_at d (first_part k + j)) (first_part k + j) refl)

module _ {d : List ℕ} {histories : List Float} {positions : List ℕ} {r : ℕ} {histories' : List Float} {positions' : List ℕ}
    (reset : Resets d histories positions r histories' positions') (ok : r ≡ 0) where
  silent_is : histories' ≡ silence_of (total histories_of (parts_of d))
  silent_is = rw (eq-eqb r 0 ok) at reset.silent

  rewound_is : positions' ≡ starts_of (parts_of d)
  rewound_is = rw (eq-eqb r 0 ok) at reset.rewound

  pub reset_histories : length histories' ≡ total histories_of (parts_of d)
  unfolding silence_of
  reset_histories = ap length silent_is ∙ length-replicate (total histories_of (parts_of d)) (of_bits binary32 0)

  pub reset_positions : length positions' ≡ total positions_of (parts_of d)
  reset_positions = ap length rewound_is ∙ length_starts (parts_of d)

  -- after a reset every part that is there has a history of +0 and the place ring length - 1
  pub from_reset : memories_of d histories' positions' ≡ silence d
  from_reset = rw (silent_is, rewound_is) (fun_ext (λ k. memories_silent d k))
