-- The code's sums are the recurrence's: one tap, tap after tap, and where their weights and inputs lie. Assumes nothing.
use mathlib.Core.Path.{◌≡◌, refl, sym, ◌∙◌, ap}
use mathlib.Core.List.{List}
use Prim.Native.Nat.{ℕ, zero, suc, ◌+◌, ◌*◌, ◌≤◌, ◌<◌}
use native.Mathlib.Nat.{mul_assoc}
use native.Mathlib.Numerals.{add-one}
use native.Mathlib.Omega.{arith}
use lib.Ieee.{Float, binary32, mul}
use Rattle.lists.specs.Tab.{at}
use Rattle.lists.proofs.Nums.{row_end}
use Rattle.single.specs.Sum.{sum_from}
use Rattle.single.proofs.Sum.{sum_ext}
use Rattle.ring.specs.Place.{place_back}
use Rattle.ring.specs.Memory.{past}
use Rattle.ring.proofs.Places.{back_lt}
use Rattle.history.proofs.Turns.{column_end}
use Rattle.sums.specs.Product.{product}
use Rattle.sums.specs.Fits.{OutputsFit}
use Rattle.shape.specs.declared.Shape.{Shape}
use Rattle.shape.specs.Counts.{ring_length, inputs_per_group, kernel_count, history_count}
use Rattle.shape.proofs.Groups.{kernel_is}
use Rattle.column.specs.Recurrence.{steps_back, channel_of, weight_index, tap_from, taps_from}
use Rattle.column.specs.Fits.{PartsFit, GroupFits}
use Rattle.column.proofs.Indices.{reach, kernel_in, inputs_end, group_end, channel_at, weight_in}

-- a sum of the code's is a tap's, if its weights and inputs are
pub tap_is : (sh : Shape) (weights : List Float) (v : ℕ → ℕ → Float) (o k w ipg : ℕ) (u : ℕ → Float) (start : Float) → ipg ≡ inputs_per_group sh
    → ((j : ℕ) → j < ipg → w + j * sh.kernel ≡ weight_index sh o j k) → ((j : ℕ) → j < ipg → u j ≡ v (channel_of sh o j) (steps_back sh k))
    → sum_from start ipg (product weights w sh.kernel u) ≡ tap_from sh weights v o k start
unfolding tap_from product
tap_is sh weights v o k w ipg u start e hw hu =
    sum_ext start ipg _ (λ j. mul binary32 (at weights (weight_index sh o j k)) (v (channel_of sh o j) (steps_back sh k))) (λ j hj. rw (hw j hj, hu j hj))
    ∙ ap (λ (n : ℕ). sum_from start n (λ j. mul binary32 (at weights (weight_index sh o j k)) (v (channel_of sh o j) (steps_back sh k)))) e

pub taps_none : (sh : Shape) (weights : List Float) (v : ℕ → ℕ → Float) (o : ℕ) (start : Float) → start ≡ taps_from sh weights v o 0 start
unfolding taps_from
taps_none sh weights v o start = refl

pub taps_more : (sh : Shape) (weights : List Float) (v : ℕ → ℕ → Float) (o k : ℕ) (start sum last : Float) → sum ≡ taps_from sh weights v o k start
    → last ≡ tap_from sh weights v o k sum → last ≡ taps_from sh weights v o (k + 1) start
unfolding taps_from
taps_more sh weights v o k start sum last e h = rw (h, e, add-one)

-- a tap, and all taps, look at their own channels and columns alone
pub tap_ext : (sh : Shape) (weights : List Float) (v u : ℕ → ℕ → Float) (o k : ℕ) (start : Float)
    → ((j : ℕ) → j < inputs_per_group sh → v (channel_of sh o j) (steps_back sh k) ≡ u (channel_of sh o j) (steps_back sh k))
    → tap_from sh weights v o k start ≡ tap_from sh weights u o k start
unfolding tap_from
tap_ext sh weights v u o k start h = sum_ext start (inputs_per_group sh) _ _ (λ j hj. rw (h j hj))

pub taps_ext : (sh : Shape) (weights : List Float) (v u : ℕ → ℕ → Float) (o : ℕ) (start : Float)
    → ((j k : ℕ) → j < inputs_per_group sh → v (channel_of sh o j) (steps_back sh k) ≡ u (channel_of sh o j) (steps_back sh k))
    → (k : ℕ) → taps_from sh weights v o k start ≡ taps_from sh weights u o k start
unfolding taps_from
taps_ext sh weights v u o start h zero = refl
taps_ext sh weights v u o start h (suc k) = rw (taps_ext sh weights v u o start h k) (tap_ext sh weights v u o k (taps_from sh weights u o k start) (λ j hj. h j k hj))

-- the weight of lane i's input j, as the code finds it
pub lane_weight : (o i j k ipg kernel : ℕ) → o * (ipg * kernel) + k + i * (ipg * kernel) + j * kernel ≡ ((o + i) * ipg + j) * kernel + k
lane_weight o i j k ipg kernel = rw (sym (mul_assoc o ipg kernel), sym (mul_assoc i ipg kernel)) (omega arith)

-- the column that tap k reads, as the code finds its place
pub column_found : (sh : Shape) (len place k : ℕ) {back column : ℕ} → back ≡ steps_back sh k → column ≡ place_back len place back → column ≡ place_back len place (steps_back sh k)
column_found sh len place k e h = rw (sym e) h

-- ---- what n outputs of group g read out of the history at tap k, as the code has it: inputs per group, the column's place
module _ {sh : Shape} {place len nhistory nweights g o n ipg : ℕ} (f : PartsFit sh place len nhistory nweights) (h : GroupFits sh g o n)
    (e : ipg ≡ inputs_per_group sh) where
  pub base_in : g * ipg + ipg ≤ sh.ins
  base_in = rw e (inputs_end f.divided f.range g h.group_in)

  pub outs_in : o + n ≤ sh.outs
  outs_in = omega (arith, h.high, group_end f.divided f.range g h.group_in)

  pub between_in : 0 < n → o * (ipg * sh.kernel) + ipg * sh.kernel ≤ kernel_count sh
  between_in some =
      rw (kernel_is f.divided f.range, e, mul_assoc sh.outs (inputs_per_group sh) sh.kernel)
      (row_end o sh.outs (inputs_per_group sh * sh.kernel) (omega (arith, outs_in)))

  pub column_inside : (k column : ℕ) → column ≡ place_back len place (steps_back sh k) → column * sh.ins + sh.ins ≤ nhistory
  unfolding history_count
  column_inside k column c =
      let lt : column < len = rw c (back_lt len place (steps_back sh k) f.place_in (rw f.ring_is (reach sh k))) in
      column_end sh.ins len column nhistory lt (rw f.ring_is f.history_is)

  pub outputs_fit : (k column : ℕ) → k < sh.kernel → column ≡ place_back len place (steps_back sh k)
      → (last : ℕ) → last < n → OutputsFit nhistory nweights (column * sh.ins + g * ipg) (o * (ipg * sh.kernel) + k) (ipg * sh.kernel) last sh.kernel ipg
  unfolding weight_index
  outputs_fit k column hk c last hl = record {
    values_in = omega (arith, column_inside k column c, base_in);
    weights_inside = λ i j hi hj.
        let w = weight_in f.divided f.range (o + i) j k (omega (arith, outs_in, hi)) (rw (sym e) hj) hk in
        omega (arith, lane_weight o i j k ipg sh.kernel, rw (sym e) at w, kernel_in sh nweights f.weights_is);
  }

  -- the column's numbers are the past's
  pub past_is : (history : List Float) (k column i j : ℕ) → column ≡ place_back len place (steps_back sh k) → i < n → at history (column * sh.ins + g * ipg + j)
      ≡ past sh.ins (ring_length sh) (record { history = history; place = place }) (channel_of sh (o + i) j) (steps_back sh k)
  unfolding past
  past_is history k column i j c hi =
      let is : column * sh.ins + g * ipg + j ≡ place_back (ring_length sh) place (steps_back sh k) * sh.ins + channel_of sh (o + i) j =
      rw (channel_at f.divided f.range h i j hi, c, f.ring_is, e) (omega arith) in
      ap (at history) is

  -- lane i's sum is tap k of output o + i
  pub lane_is : (history weights : List Float) (k column i : ℕ) (start : Float) → column ≡ place_back len place (steps_back sh k) → i < n
      → sum_from start ipg (product weights (o * (ipg * sh.kernel) + k + i * (ipg * sh.kernel)) sh.kernel (λ j. at history (column * sh.ins + g * ipg + j)))
      ≡ tap_from sh weights (past sh.ins (ring_length sh) (record { history = history; place = place })) (o + i) k start
  unfolding weight_index
  lane_is history weights k column i start c hi =
      tap_is sh weights (past sh.ins (ring_length sh) (record { history = history; place = place })) (o + i) k _ ipg (λ j. at history (column * sh.ins + g * ipg + j)) start e
      (λ j hj. rw (sym e) (lane_weight o i j k ipg sh.kernel))
      (λ j hj. past_is history k column i j c hi)
