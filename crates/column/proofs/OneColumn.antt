-- One column: lanes are outputs, stretches of outputs make a group, groups make all; and the memory keeps its size. Assumes nothing.
use mathlib.Core.Path.{◌≡◌, sym, ◌∙◌, ap}
use mathlib.Core.Bool.{cond}
use mathlib.Core.List.{List}
use Prim.Native.Nat.{ℕ, ◌+◌, ◌*◌}
use native.Mathlib.Omega.{arith}
use lib.ListN.{length}
use lib.Ieee.{Float, nan, binary32, of_bits}
use Rattle.lists.specs.Tab.{at, tab, rows}
use Rattle.lists.proofs.Nums.{row_next}
use Rattle.lists.proofs.Tab.{at-tab}
use Rattle.lists.proofs.Rows.{rows_ext, rows_join}
use Rattle.ring.specs.Memory.{Memory, Sound, past, after}
use Rattle.ring.proofs.Window.{after_sound}
use Rattle.shape.specs.declared.Shape.{Shape}
use Rattle.shape.specs.Counts.{ring_length, kernel_count, history_count}
use Rattle.column.specs.Recurrence.{start_of, taps_from, output}
use Rattle.column.specs.Fits.{PartsFit}

module _ (sh : Shape) (weights : List Float) (s : Memory) where
  -- a lane's sum, from what it starts at, is its output
  lane_output : (o i count : ℕ) (begun sum : Float) → count ≡ kernel_count sh → begun ≡ cond sh.biased (at weights (count + o + i)) (of_bits binary32 0)
      → sum ≡ taps_from sh weights (past sh.ins (ring_length sh) s) (o + i) sh.kernel begun → sum ≡ output sh weights s (o + i)
  unfolding output start_of
  lane_output o i count begun sum e b h =
      let is : kernel_count sh + o + i ≡ kernel_count sh + (o + i) = omega arith in
      rw (h, b, e, is)

  -- the sums of the lanes, stored one after another, are as many outputs from o on
  pub lanes_are : (lanes to m o count : ℕ) (begun sums old last : List Float) → count ≡ kernel_count sh
      → begun ≡ tab lanes (λ i. cond sh.biased (at weights (count + o + i)) (of_bits binary32 0))
      → sums ≡ tab lanes (λ i. taps_from sh weights (past sh.ins (ring_length sh) s) (o + i) sh.kernel (at begun i))
      → last ≡ rows to m 1 lanes (λ i t. at sums i) old → last ≡ rows to m 1 lanes (λ i t. output sh weights s (o + i)) old
  lanes_are lanes to m o count begun sums old last e b h l =
      l
      ∙ rows_ext to m 1 lanes (λ i t. at sums i) (λ i t. output sh weights s (o + i)) old (λ i t hi ht.
      lane_output o i count (at begun i) (at sums i) e
      (rw (b, at-tab nan lanes _ i hi))
      (rw (h, at-tab nan lanes _ i hi)))

  -- n outputs more
  pub outputs_turn : (old work last : List Float) (out m first i n : ℕ) → work ≡ rows (out + first * m) m 1 i (λ i t. output sh weights s (first + i)) old
      → last ≡ rows (out + (first + i) * m) m 1 n (λ k t. output sh weights s (first + i + k)) work
      → last ≡ rows (out + first * m) m 1 (i + n) (λ i t. output sh weights s (first + i)) old
  outputs_turn old work last out m first i n e l =
      let here : out + (first + i) * m ≡ out + first * m + i * m = omega arith in
      let more : last ≡ rows (out + first * m + i * m) m 1 n (λ k t. output sh weights s (first + (i + k))) work =
      rw (l, here) (rows_ext (out + first * m + i * m) m 1 n _ (λ k t. output sh weights s (first + (i + k))) work (λ k t hk ht.
      let is : first + i + k ≡ first + (i + k) = omega arith in
      ap (output sh weights s) is)) in
      more ∙ rw e (rows_join (out + first * m) m 1 i n (λ i t. output sh weights s (first + i)) old)

  -- one turn of `outputs`: group g
  pub groups_turn : (old work last : List Float) (out m g n : ℕ) → work ≡ rows out m 1 (g * n) (λ o t. output sh weights s o) old
      → last ≡ rows (out + g * n * m) m 1 n (λ i t. output sh weights s (g * n + i)) work
      → last ≡ rows out m 1 ((g + 1) * n) (λ o t. output sh weights s o) old
  groups_turn old work last out m g n e l = l ∙ rw (e, row_next g n) (rows_join out m 1 (g * n) n (λ o t. output sh weights s o) old)

-- ---- the memory
pub sound : {sh : Shape} {len nweights : ℕ} (s : Memory) → PartsFit sh s.place len (length s.history) nweights → Sound sh.ins (ring_length sh) s
unfolding history_count
sound s f = record { place_in = rw (sym f.ring_is) f.place_in; history_is = f.history_is }

-- columns pushed leave a memory of the same size
pub parts_after : {sh : Shape} {place len nweights : ℕ} (place' len' n : ℕ) (history history' : List Float) (g : ℕ → ℕ → Float) → PartsFit sh place len (length history) nweights
    → record { history = history'; place = place' } ≡ after sh.ins len g (record { history = history; place = place }) n → len' ≡ len
    → PartsFit sh place' len' (length history') nweights
unfolding history_count
parts_after {sh} {place} {len} place' len' n history history' g f e l =
    let before : Sound sh.ins len (record { history = history; place = place }) = record { place_in = f.place_in; history_is = rw f.ring_is f.history_is } in
    let then : Sound sh.ins len (record { history = history'; place = place' }) = rw e (after_sound before g n) in
    record {
      range = f.range;
      divided = f.divided;
      place_in = rw l then.place_in;
      ring_is = l ∙ f.ring_is;
      history_is = rw (sym f.ring_is) then.history_is;
      weights_is = f.weights_is;
    }
