-- The bytes of columns, cut between columns: a block's bytes hold the next columns of the whole stream. Assumes nothing.
use mathlib.Core.Path.{◌≡◌, sym, ◌∙◌, ap}
use mathlib.Core.List.{List, ◌++◌}
use Prim.Native.Nat.{ℕ, ◌+◌, ◌*◌, ◌≤◌, ◌<◌}
use native.Mathlib.Omega.{arith}
use lib.Ieee.{nan}
use lib.ListN.{drop, take}
use lib.Seq.{get_or-drop, get_or-take}
use Rattle.lists.specs.Tab.{tab}
use Rattle.lists.proofs.Nums.{row_end}
use Rattle.lists.proofs.Tab.{tab_ext}
use Rattle.description.specs.Records.{array_of}
use Rattle.description.specs.declared.records.ArrayRecord.{ArrayRecord}
use Rattle.array.specs.Stages.{Column}
use Rattle.array.specs.Calls.{no_column}
use Rattle.array.proofs.Views.{tab_join}
use Rattle.wna.specs.Columns.{number_at}
use Rattle.wna.specs.File.{width_of}
use Rattle.wna.specs.Words.{float_at, half_at, word_at}
use Rattle.player.specs.Plays.{column_held, columns_held}

-- ---- past n bytes
half_drop : (n : ℕ) (f : List ℕ) (i : ℕ) → half_at (drop n f) i ≡ half_at f (n + i)
unfolding half_at
half_drop n f i = let e : n + (i + 1) ≡ n + i + 1 = omega arith in rw (get_or-drop n f i 0, get_or-drop n f (i + 1) 0, e)

word_drop : (n : ℕ) (f : List ℕ) (i : ℕ) → word_at (drop n f) i ≡ word_at f (n + i)
unfolding word_at
word_drop n f i = let e : n + (i + 2) ≡ n + i + 2 = omega arith in rw (half_drop n f i, half_drop n f (i + 2), e)

number_drop : (width m : ℕ) (f : List ℕ) (t k : ℕ) → number_at (drop (4 * (m * width)) f) width t k ≡ number_at f width (m + t) k
unfolding number_at float_at
number_drop width m f t k =
    let e : 4 * (m * width) + 4 * (t * width + k) ≡ 4 * ((m + t) * width + k) = omega arith in rw (word_drop (4 * (m * width)) f (4 * (t * width + k)), e)

-- ---- within n bytes
half_take : (n : ℕ) (f : List ℕ) (i : ℕ) → i + 2 ≤ n → half_at (take n f) i ≡ half_at f i
unfolding half_at
half_take n f i h = rw (get_or-take n f i 0 (omega arith), get_or-take n f (i + 1) 0 (omega arith))

word_take : (n : ℕ) (f : List ℕ) (i : ℕ) → i + 4 ≤ n → word_at (take n f) i ≡ word_at f i
unfolding word_at
word_take n f i h = rw (half_take n f i (omega arith), half_take n f (i + 2) (omega arith))

number_take : (width n : ℕ) (f : List ℕ) (t k : ℕ) → k < width → 4 * (t * width + width) ≤ n → number_at (take n f) width t k ≡ number_at f width t k
unfolding number_at float_at
number_take width n f t k h le = rw (word_take n f (4 * (t * width + k)) (omega arith))

module _ (d : List ℕ) where
  abbrev a : ArrayRecord
  a = array_of d

  column_drop : (m : ℕ) (f : List ℕ) (t : ℕ) → column_held d (drop (4 * (m * width_of a)) f) t ≡ column_held d f (m + t)
  unfolding column_held
  column_drop m f t = rw (
    tab_ext nan a.input _ _ (λ c h. number_drop (width_of a) m f t c),
    tab_ext nan a.head_in _ _ (λ c h. number_drop (width_of a) m f t (a.input + a.condition + c)),
    tab_ext nan a.condition _ _ (λ c h. number_drop (width_of a) m f t (a.input + c)),
  )

  column_take : (n : ℕ) (f : List ℕ) (t : ℕ) → 4 * (t * width_of a + width_of a) ≤ n → column_held d (take n f) t ≡ column_held d f t
  unfolding column_held
  column_take n f t le = rw (
    tab_ext nan a.input _ _ (λ c h. number_take (width_of a) n f t c (omega arith) le),
    tab_ext nan a.head_in _ _ (λ c h. number_take (width_of a) n f t (a.input + a.condition + c) (omega arith) le),
    tab_ext nan a.condition _ _ (λ c h. number_take (width_of a) n f t (a.input + c) (omega arith) le),
  )

  -- m columns, and those of the bytes after them
  pub held_join : (m k : ℕ) (f : List ℕ) → columns_held d f (m + k) ≡ columns_held d f m ++ columns_held d (drop (4 * (m * width_of a)) f) k
  unfolding columns_held
  held_join m k f =
      tab_join no_column m k (column_held d f)
      ∙ ap (λ (l : List Column). tab m (column_held d f) ++ l) (sym (tab_ext no_column k (column_held d (drop (4 * (m * width_of a)) f)) (λ t. column_held d f (m + t)) (λ t h. column_drop m f t)))

  -- what was read holds its whole columns
  pub held_take : (m n : ℕ) (f : List ℕ) → 4 * (m * width_of a) ≤ n → columns_held d (take n f) m ≡ columns_held d f m
  unfolding columns_held
  held_take m n f le = tab_ext no_column m _ _ (λ t h. column_take n f t (omega (arith, row_end t m (width_of a) h)))
