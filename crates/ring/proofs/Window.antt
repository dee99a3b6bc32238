-- The sliding window, for all widths and ring lengths: what stands b back after columns were pushed. Assumes nothing.
use mathlib.Core.Path.{◌≡◌, refl, ◌∙◌, ap}
use mathlib.Core.List.{List}
use mathlib.Core.Logic.{⊎_elim}
use Prim.Native.Nat.{ℕ, zero, suc, ◌+◌, ◌-◌, ◌*◌, ◌≤◌, ◌<◌}
use native.Mathlib.Nat.{not-suc-le-zero, le_of_suc-le-suc, mul_comm}
use native.Mathlib.Omega.{arith}
use lib.Ieee.{Float, nan}
use Rattle.lists.specs.Tab.{at, fill}
use Rattle.lists.proofs.Nums.{row_end, le_or_lt}
use Rattle.lists.proofs.Fill.{length-fill, at-fill_below, at-fill_above, at-fill_in}
use Rattle.ring.specs.Place.{next_place, place_back}
use Rattle.ring.specs.Memory.{Memory, Sound, push, past, after, seen}
use Rattle.ring.proofs.Places.{next_lt, back_none, back_next, back_not_next}

-- ---- what is seen, in closed form
module _ (x old : ℕ → Float) where
  pub seen_in : (b t : ℕ) → b ≤ t → seen x old b t ≡ x (t - b)
  unfolding seen
  seen_in zero t h = ap x (omega arith)
  seen_in (suc b) zero h = absurd (not-suc-le-zero h)
  seen_in (suc b) (suc t) h = seen_in b t (le_of_suc-le-suc h) ∙ ap x (omega arith)

  pub seen-out : (b t : ℕ) → t < b → seen x old b t ≡ old (b - t - 1)
  unfolding seen
  seen-out zero t h = absurd (not-suc-le-zero h)
  seen-out (suc b) zero h = ap old (omega arith)
  seen-out (suc b) (suc t) h = seen-out b t (le_of_suc-le-suc h) ∙ ap old (omega arith)

pub seen_ext : (x y old : ℕ → Float) (b t : ℕ) → ((i : ℕ) → i ≤ t → x i ≡ y i) → seen x old b t ≡ seen y old b t
unfolding seen
seen_ext x y old zero t h = h t (omega arith)
seen_ext x y old (suc b) zero h = refl
seen_ext x y old (suc b) (suc t) h = seen_ext x y old b t (λ i l. h i (omega arith))

-- a column stored elsewhere leaves column c
at_other : (w p c j : ℕ) (column : ℕ → Float) (history : List Float) → j < w → (c ≡ p → ⊥) → at (fill (p * w) w column history) (c * w + j) ≡ at history (c * w + j)
at_other w p c j column history h n =
    ⊎_elim
    (λ (l : suc c ≤ p). at-fill_below nan (p * w) w column history (c * w + j) (omega (arith, row_end c p w l)))
    (λ (l : p < suc c). at-fill_above nan (p * w) w column history (c * w + j) (omega (arith, row_end p c w (omega arith))))
    (le_or_lt (suc c) p)

module _ {w len : ℕ} {s : Memory} (f : Sound w len s) where
  pub push_sound : (column : ℕ → Float) → Sound w len (push w len s column)
  unfolding push
  push_sound column = record {
    place_in = next_lt len s.place f.place_in;
    history_is = length-fill _ w column s.history ∙ f.history_is;
  }

  -- the newest column
  pub push_new : (column : ℕ → Float) (j : ℕ) → j < w → past w len (push w len s column) j 0 ≡ column j
  unfolding past push
  push_new column j h =
      let p = next_place len s.place in
      let lt : p < len = next_lt len s.place f.place_in in
      let e : w * len ≡ len * w = mul_comm w len in
      rw (back_none len p) (at-fill_in nan (p * w) w column s.history j h (omega (arith, row_end p len w lt, f.history_is, e)))

  -- the others
  pub push_old : (column : ℕ → Float) (j b : ℕ) → j < w → suc b < len → past w len (push w len s column) j (suc b) ≡ past w len s j b
  unfolding past push
  push_old column j b h k =
      rw (back_next len s.place b f.place_in k)
      (at_other w (next_place len s.place) (place_back len s.place b) j column s.history h (back_not_next len s.place b f.place_in k))

module _ {w len : ℕ} {s : Memory} (f : Sound w len s) (x : ℕ → ℕ → Float) where
  pub after_sound : (t : ℕ) → Sound w len (after w len x s t)
  unfolding after
  after_sound zero = f
  after_sound (suc t) = push_sound (after_sound t) (x t)

  -- after columns 0 .. t, what stands b back is what is seen from column t
  pub window : (t j b : ℕ) → j < w → b < len → past w len (after w len x s (suc t)) j b ≡ seen (λ i. x i j) (past w len s j) b t
  unfolding after seen
  window t j zero h k = push_new (after_sound t) (x t) j h
  window zero j (suc b) h k = push_old f (x zero) j b h k
  window (suc t) j (suc b) h k = push_old (after_sound (suc t)) (x (suc t)) j b h k ∙ window t j b h (omega arith)

  -- the sliding window: the column b back is column t - b of those pushed ..
  pub window_in : (t j b : ℕ) → j < w → b < len → b ≤ t → past w len (after w len x s (suc t)) j b ≡ x (t - b) j
  window_in t j b h k l = window t j b h k ∙ seen_in (λ i. x i j) (past w len s j) b t l

  -- .. or what stood b - t - 1 back before
  pub window_out : (t j b : ℕ) → j < w → b < len → t < b → past w len (after w len x s (suc t)) j b ≡ past w len s j (b - t - 1)
  window_out t j b h k l = window t j b h k ∙ seen-out (λ i. x i j) (past w len s j) b t l
