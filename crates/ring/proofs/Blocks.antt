-- Columns pushed one at a time: a block cut anywhere is the same as whole. Assumes nothing.
use mathlib.Core.Path.{◌≡◌, refl, ◌∙◌, ap}
use Prim.Native.Nat.{ℕ, zero, suc, ◌+◌, ◌*◌, ◌<◌}
use native.Mathlib.Nat.{add-zero, add-suc}
use native.Mathlib.Numerals.{add-one}
use native.Mathlib.Omega.{arith}
use lib.Ieee.{Float}
use Rattle.lists.proofs.Fill.{fill_ext}
use Rattle.ring.specs.Place.{next_place}
use Rattle.ring.specs.Memory.{Memory, push, after}

module _ (w len : ℕ) where
  pub after_none : (x : ℕ → ℕ → Float) (s : Memory) → after w len x s 0 ≡ s
  unfolding after
  after_none x s = refl

  -- one more, as a loop has it
  pub after_more : (x : ℕ → ℕ → Float) (s : Memory) (t : ℕ) → push w len (after w len x s t) (x t) ≡ after w len x s (t + 1)
  unfolding after
  after_more x s t = rw add-one

  -- t1 + t2 columns are t2 more after the first t1
  pub after_join : (x : ℕ → ℕ → Float) (s : Memory) (t1 t2 : ℕ) → after w len (λ i. x (t1 + i)) (after w len x s t1) t2 ≡ after w len x s (t1 + t2)
  unfolding after
  after_join x s t1 zero = rw add-zero
  after_join x s t1 (suc t2) = rw (add-suc, after_join x s t1 t2)

  -- a memory knows the channels of the columns pushed alone
  pub push_ext : (s : Memory) (x y : ℕ → Float) → ((j : ℕ) → j < w → x j ≡ y j) → push w len s x ≡ push w len s y
  unfolding push
  push_ext s x y h = rw (fill_ext (next_place len s.place * w) w x y s.history h)

  pub after_ext : (x y : ℕ → ℕ → Float) (s : Memory) (n : ℕ) → ((t j : ℕ) → t < n → j < w → x t j ≡ y t j) → after w len x s n ≡ after w len y s n
  unfolding after
  after_ext x y s zero h = refl
  after_ext x y s (suc n) h =
      rw (after_ext x y s n (λ t j ht hj. h t j (omega arith) hj)) (push_ext (after w len y s n) (x n) (y n) (λ j hj. h n j (omega arith) hj))

  -- any run of memories that pushes x is this one
  pub after_run : (S : ℕ → Memory) (x : ℕ → ℕ → Float) → ((t : ℕ) → S (suc t) ≡ push w len (S t) (x t)) → (t : ℕ) → S t ≡ after w len x (S 0) t
  unfolding after
  after_run S x h zero = refl
  after_run S x h (suc t) = h t ∙ ap (λ (s : Memory). push w len s (x t)) (after_run S x h t)
