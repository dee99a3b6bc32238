-- A list by a rule for each place, and a list some of whose places are filled by a rule.
use Rattle.std.specs.Prelude.{List, [], ◌∷◌, get_or, set, Float}
use Prim.Native.Nat.{ℕ, zero, suc, ◌+◌, ◌*◌}
use Rattle.std.specs.Float.{nan}

-- the float at i (NaN past the end)
abbrev pub at : List Float → ℕ → Float
at l i = get_or l i nan

module _ {A : Type 0} where
  -- f 0, f 1, .. f (n - 1)
  unfoldable pub tab : ℕ → (ℕ → A) → List A
  tab zero f = []
  tab (suc n) f = let h = f zero in h ∷ tab n (λ i. f (suc i))

  -- old, with f 0, .. f (n - 1) at the n places from a on
  unfoldable pub fill : ℕ → ℕ → (ℕ → A) → List A → List A
  fill a zero f old = old
  fill a (suc n) f old = set (fill a n f old) (a + n) (f n)

  -- old, with w rows filled: of each row c, which begins at a + c * s, the first m places by g c
  unfoldable pub rows : ℕ → ℕ → ℕ → ℕ → (ℕ → ℕ → A) → List A → List A
  unfolding fill
  rows a s m zero g old = old
  rows a s m (suc w) g old = fill (a + w * s) m (g w) (rows a s m w g old)
