-- A rule of a table, proved at all of its places by one test that antt computes. Assumes nothing.
use mathlib.Core.Path.{◌≡◌, sym, subst}
use mathlib.Core.Bool.{Bool, true, ◌&&◌}
use Prim.Native.Nat.{ℕ, zero, suc, ◌<◌}
use native.Mathlib.Nat.{not-suc-le-zero, le_of_suc-le-suc, eq-or-lt_of_le}
use mathlib.Core.Logic.{⊎_elim}
use lib.Dec.{T, ltb, ltb→lt}
use lib.Ieee.Fits.{and_l, and_r}

-- the test f passes at 0 .. n - 1
abbrev pub every : ℕ → (ℕ → Bool) → Bool
every zero f = true
every (suc n) f = f n && every n f

pub at_every : (f : ℕ → Bool) (n : ℕ) → T (every n f) → (i : ℕ) → i < n → T (f i)
at_every f zero t i h = absurd (not-suc-le-zero h)
at_every f (suc n) t i h =
    ⊎_elim
    (λ (e : i ≡ n). subst (λ (k : ℕ). T (f k)) (sym e) (and_l (f n) (every n f) t))
    (λ (l : i < n). at_every f n (and_r (f n) (every n f) t) i l)
    (eq-or-lt_of_le (le_of_suc-le-suc h))

-- a test of two bounds at once
abbrev pub rises : ℕ → ℕ → ℕ → Bool
rises a b c = ltb a b && ltb b c

pub rising : (a b c : ℕ) → T (rises a b c) → (a < b) × (b < c)
rising a b c t = (ltb→lt a b (and_l (ltb a b) (ltb b c) t), ltb→lt b c (and_r (ltb a b) (ltb b c) t))
