-- Columns of planar blocks: those that a turn wrote, and those that it left. Assumes nothing.
use mathlib.Core.Path.{◌≡◌, sym, ◌∙◌, ap}
use mathlib.Core.List.{List}
use mathlib.Core.Logic.{⊎_elim}
use Prim.Native.Nat.{ℕ, suc, ◌+◌, ◌*◌, ◌≤◌, ◌<◌}
use native.Mathlib.Nat.{zero-add}
use native.Mathlib.Omega.{arith}
use lib.Ieee.{Float, nan}
use Rattle.lists.specs.Tab.{at, tab}
use Rattle.lists.specs.Region.{Apart, Beside, Strip, Free}
use Rattle.lists.proofs.Nums.{row_end, le_or_lt}
use Rattle.lists.proofs.Tab.{tab_ext}
use Rattle.array.specs.Planar.{column_in}

-- the columns from `from` on of a block of w channels at base start at a
module _ (base n w from count a : ℕ) (starts : a ≡ base + from) where
  -- column from + i, where those columns were filled
  pub column_taken : {f : ℕ → ℕ → Float} {work : List Float} → Strip a n w count f work → (i : ℕ) → i < count
      → tab w (λ c. at work (base + c * n + (from + i))) ≡ tab w (λ c. f c i)
  column_taken {f} {work} s i h =
      tab_ext nan w (λ c. at work (base + c * n + (from + i))) (λ c. f c i)
      (λ c hc. let e : base + c * n + (from + i) ≡ a + c * n + i = omega (arith, starts) in ap (at work) e ∙ s.is c i hc h)

  -- a number of another column lies beside those that were filled
  pub beside_column : (c t : ℕ) → from + count ≤ n → t < n → Apart from count t 1 → Beside a n w count (base + c * n + t)
  beside_column c t le ht out =
      λ o ho. ⊎_elim
      (λ (l : suc o ≤ c). let q = row_end o c n l in omega (arith, q, le, starts))
      (λ (l : c < suc o). ⊎_elim
      (λ (l2 : suc c ≤ o). let q = row_end c o n l2 in omega (arith, q, ht, starts))
      (λ (l2 : o < suc c). let e : o ≡ c = omega arith in rw e (omega (arith, out, starts)))
      (le_or_lt (suc c) o))
      (le_or_lt (suc o) c)

-- columns that P allows to stay are what they were
pub column_kept : {P : ℕ → Type 0} {old new : List Float} → Free nan P old new → (base n w t : ℕ) → ((c : ℕ) → c < w → P (base + c * n + t))
    → tab w (λ c. at new (base + c * n + t)) ≡ tab w (λ c. at old (base + c * n + t))
column_kept {P} {old} {new} free base n w t h = tab_ext nan w (λ c. at new (base + c * n + t)) (λ c. at old (base + c * n + t)) (λ c hc. free.is (base + c * n + t) (h c hc))

-- the same of a buffer that is one block
module _ (n w from count : ℕ) where
  pub block_column : {f : ℕ → ℕ → Float} {work : List Float} → Strip from n w count f work → (i : ℕ) → i < count → column_in w n work (from + i) ≡ tab w (λ c. f c i)
  unfolding column_in
  block_column {f} {work} s i h =
      tab_ext nan w (λ c. at work (c * n + (from + i))) (λ c. f c i)
      (λ c hc. let e : c * n + (from + i) ≡ from + c * n + i = omega arith in ap (at work) e ∙ s.is c i hc h)

  pub block_kept : {old new : List Float} → Free nan (Beside from n w count) old new → (t : ℕ) → from + count ≤ n → t < n → Apart from count t 1
      → column_in w n new t ≡ column_in w n old t
  unfolding column_in
  block_kept {old} {new} free t le ht out =
      tab_ext nan w (λ c. at new (c * n + t)) (λ c. at old (c * n + t))
      (λ c hc. free.is (c * n + t) (λ o ho. let q = beside_column 0 n w from count from (sym (zero-add from)) c t le ht out o ho in omega (arith, q)))
