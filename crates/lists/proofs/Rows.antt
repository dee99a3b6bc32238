-- Laws on rows filled one by one. s is the distance of two rows, m how many places of each are filled. Assumes nothing.
use mathlib.Core.Path.{◌≡◌, refl, sym, ◌∙◌, ap}
use mathlib.Core.List.{List}
use mathlib.Core.Logic.{⊎_elim}
use Prim.Native.Nat.{ℕ, zero, suc, ◌+◌, ◌*◌, ◌≤◌, ◌<◌}
use native.Mathlib.Nat.{not-suc-le-zero, le_of_suc-le-suc, eq-or-lt_of_le, suc-mul, add-zero, add-suc}
use native.Mathlib.Numerals.{add-one}
use native.Mathlib.Omega.{arith}
use lib.ListN.{length, get_or, set}
use Rattle.lists.specs.Tab.{fill, rows}
use Rattle.lists.specs.Region.{Apart}
use Rattle.lists.proofs.Nums.{row_end}
use Rattle.lists.proofs.Fill.{fill_none, fill_turn, length-fill, fill_ext, fill_join, fill_swap, at-fill_below, at-fill_in, at-fill-out}

module _ {A : Type 0} where
  pub rows_none : (a s m : ℕ) (g : ℕ → ℕ → A) (old : List A) → old ≡ rows a s m 0 g old
  unfolding rows
  rows_none a s m g old = refl

  -- rows of no places
  pub rows_narrow : (a s w : ℕ) (g : ℕ → ℕ → A) (old : List A) → old ≡ rows a s 0 w g old
  unfolding rows fill
  rows_narrow a s zero g old = refl
  rows_narrow a s (suc w) g old = rows_narrow a s w g old

  pub length-rows : (a s m w : ℕ) (g : ℕ → ℕ → A) (old : List A) → length (rows a s m w g old) ≡ length old
  unfolding rows
  length-rows a s m zero g old = refl
  length-rows a s m (suc w) g old = length-fill (a + w * s) m (g w) (rows a s m w g old) ∙ length-rows a s m w g old

  -- one row more, as a loop makes it: row w was filled by a rule that is g's
  pub rows_more : (a s m w : ℕ) (g : ℕ → ℕ → A) (f : ℕ → A) (out old last : List A) → out ≡ rows a s m w g old
      → last ≡ fill (a + w * s) m f out → ((t : ℕ) → t < m → f t ≡ g w t) → last ≡ rows a s m (w + 1) g old
  unfolding rows
  rows_more a s m w g f out old last e h same = rw (add-one, h, sym e) (fill_ext (a + w * s) m f (g w) out same)

  -- rows of one place each: one store more
  pub rows-cell : (a s w : ℕ) (g : ℕ → ℕ → A) (out old : List A) (v : A) → out ≡ rows a s 1 w g old → v ≡ g w 0 → set out (a + w * s) v ≡ rows a s 1 (w + 1) g old
  rows-cell a s w g out old v e h =
      rows_more a s 1 w g (g w) out old (set out (a + w * s) v) e (rw add-zero at (fill_turn out out (a + w * s) 0 (g w) v (sym (fill_none _ _ out)) h)) (λ t lt. refl)

  pub rows_ext : (a s m w : ℕ) (f g : ℕ → ℕ → A) (old : List A) → ((c t : ℕ) → c < w → t < m → f c t ≡ g c t) → rows a s m w f old ≡ rows a s m w g old
  unfolding rows
  rows_ext a s m zero f g old h = refl
  rows_ext a s m (suc w) f g old h =
      rw (rows_ext a s m w f g old (λ c t hc ht. h c t (omega arith) ht))
      (fill_ext (a + w * s) m (f w) (g w) (rows a s m w g old) (λ t ht. h w t (omega arith) ht))

  -- more rows: those from row w on, after the first w
  pub rows_join : (a s m w k : ℕ) (g : ℕ → ℕ → A) (old : List A)
      → rows (a + w * s) s m k (λ c. g (w + c)) (rows a s m w g old) ≡ rows a s m (w + k) g old
  unfolding rows
  rows_join a s m w zero g old = rw add-zero
  rows_join a s m w (suc k) g old =
      let e : a + w * s + k * s ≡ a + (w + k) * s = omega arith in
      rw (rows_join a s m w k g old, add-suc, e)

module _ {A : Type 0} (d : A) where
  -- a place that lies in none of the rows
  pub at-rows-out : (a s m w : ℕ) (g : ℕ → ℕ → A) (old : List A) (i : ℕ) → ((c : ℕ) → c < w → Apart (a + c * s) m i 1) → get_or (rows a s m w g old) i d ≡ get_or old i d
  unfolding rows
  at-rows-out a s m zero g old i h = refl
  at-rows-out a s m (suc w) g old i h =
      at-fill-out d (a + w * s) m (g w) (rows a s m w g old) i (h w (omega arith)) ∙ at-rows-out a s m w g old i (λ c l. h c (omega (arith, l)))

  pub at-rows_in : (a s m w : ℕ) (g : ℕ → ℕ → A) (old : List A) (c t : ℕ) → c < w → t < m → m ≤ s → a + m + w * s ≤ length old + s
      → get_or (rows a s m w g old) (a + c * s + t) d ≡ g c t
  unfolding rows
  at-rows_in a s m zero g old c t h k q b = absurd (not-suc-le-zero h)
  at-rows_in a s m (suc w) g old c t h k q b =
      ⊎_elim
      (λ (e : c ≡ w). rw e (at-fill_in d (a + w * s) m (g w) (rows a s m w g old) t k (omega (arith, b, suc-mul w s, length-rows a s m w g old))))
      (λ (lt : c < w).
      at-fill_below d (a + w * s) m (g w) (rows a s m w g old) (a + c * s + t) (omega (arith, k, q, row_end c w s lt))
      ∙ at-rows_in a s m w g old c t lt k q (omega (arith, b, q, suc-mul w s)))
      (eq-or-lt_of_le (le_of_suc-le-suc h))

  -- what lies after all rows can be filled before them
  rows_swap : (a s m w b n : ℕ) (g : ℕ → ℕ → A) (f : ℕ → A) (old : List A) → m ≤ s → a + m + w * s ≤ b + s → b + n ≤ length old
      → fill b n f (rows a s m w g old) ≡ rows a s m w g (fill b n f old)
  unfolding rows
  rows_swap a s m zero b n g f old q h hb = refl
  rows_swap a s m (suc w) b n g f old q h hb =
      let l = length-rows a s m w g old in
      let e : a + w * s + m ≤ b = omega (arith, h, suc-mul w s) in
      fill_swap d b n (a + w * s) m f (g w) (rows a s m w g old) (omega (arith, e)) (omega (arith, l, hb)) (omega (arith, l, hb, e))
      ∙ ap (λ (x : List A). fill (a + w * s) m (g w) x) (rows_swap a s m w b n g f old q (omega (arith, e, q)) hb)

  -- wider rows: the places from m on, after the first m of each
  pub rows_wider : (a s m k w : ℕ) (g : ℕ → ℕ → A) (old : List A) → m + k ≤ s → a + m + k + w * s ≤ length old + s
      → rows (a + m) s k w (λ c i. g c (m + i)) (rows a s m w g old) ≡ rows a s (m + k) w g old
  unfolding rows
  rows_wider a s m k zero g old q h = refl
  rows_wider a s m k (suc w) g old q h =
      let l = length-rows a s m w g old in
      let e : a + m + w * s ≡ a + w * s + m = omega arith in
      let i : a + w * s + m + k ≤ length old = omega (arith, h, suc-mul w s) in
      let back : rows (a + m) s k w (λ c i. g c (m + i)) (fill (a + w * s) m (g w) (rows a s m w g old))
      ≡ fill (a + w * s) m (g w) (rows a s (m + k) w g old) =
      sym (rows_swap (a + m) s k w (a + w * s) m (λ c i. g c (m + i)) (g w) (rows a s m w g old) (omega (arith, q)) (omega (arith, q)) (omega (arith, l, i)))
      ∙ ap (λ (x : List A). fill (a + w * s) m (g w) x) (rows_wider a s m k w g old q (omega (arith, q, i))) in
      rw (back, e) (fill_join (a + w * s) m k (g w) (rows a s (m + k) w g old))

  -- rows without gaps: outside of all of them
  pub rows_apart : (a m w i : ℕ) (g : ℕ → ℕ → A) (out old : List A) → out ≡ rows a m m w g old → Apart a (w * m) i 1 → get_or out i d ≡ get_or old i d
  rows_apart a m w i g out old e h =
      rw e (at-rows-out a m m w g old i (λ c l. omega (arith, h, row_end c w m l)))
