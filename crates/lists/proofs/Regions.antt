-- What a region holds after it was filled, and after something else was. Assumes nothing.
use mathlib.Core.Path.{◌≡◌, refl, ◌∙◌, ap}
use mathlib.Core.List.{List}
use mathlib.Core.Logic.{⊎_elim}
use Prim.Native.Nat.{ℕ, suc, ◌+◌, ◌-◌, ◌*◌, ◌≤◌, ◌<◌}
use native.Mathlib.Omega.{arith}
use lib.ListN.{length}
use lib.Ieee.{Float, nan}
use Rattle.lists.specs.Tab.{at, fill, rows}
use Rattle.lists.specs.Region.{Apart, cell, Holds, Free, Strip, Beside}
use Rattle.lists.proofs.Nums.{row_end, le_or_lt}
use Rattle.lists.proofs.Fill.{length-fill, at-fill-out, at-fill_in}
use Rattle.lists.proofs.Rows.{length-rows, at-rows_in, at-rows-out, rows_apart}

-- ---- frames, for every element type
module _ {A : Type 0} {d : A} where
  pub free_self : {P : ℕ → Type 0} {a : List A} → Free d P a a
  free_self = record { long = refl; is = λ i p. refl }

  -- one after the other, for a condition that allows both
  pub free_then : {P Q R : ℕ → Type 0} {a b c : List A} → Free d P a b → Free d Q b c → ((i : ℕ) → R i → P i) → ((i : ℕ) → R i → Q i) → Free d R a c
  free_then p q f g = record { long = q.long ∙ p.long; is = λ i r. q.is i (g i r) ∙ p.is i (f i r) }

  -- under a stronger condition
  pub free_as : {P R : ℕ → Type 0} {a b : List A} → Free d P a b → ((i : ℕ) → R i → P i) → Free d R a b
  free_as p f = record { long = p.long; is = λ i r. p.is i (f i r) }

pub fill_free : {A : Type 0} (d : A) (a n : ℕ) (f : ℕ → A) (old new : List A) → new ≡ fill a n f old → Free d (λ i. Apart a n i 1) old new
fill_free d a n f old new e = record { long = ap length e ∙ length-fill a n f old; is = λ i h. rw e (at-fill-out d a n f old i h) }

pub rows_free : {A : Type 0} (d : A) (a m w : ℕ) (g : ℕ → ℕ → A) (old new : List A) → new ≡ rows a m m w g old → Free d (λ i. Apart a (w * m) i 1) old new
rows_free d a m w g old new e = record { long = ap length e ∙ length-rows a m m w g old; is = λ i h. rows_apart d a m w i g new old e h }

-- ---- what regions hold
-- a region that P allows to stay holds what it held
pub holds_free : {P : ℕ → Type 0} {b w m : ℕ} {f : ℕ → ℕ → Float} {old new : List Float} → Free nan P old new
    → ((i : ℕ) → b ≤ i → i < b + w * m → P i) → Holds b w m f old → Holds b w m f new
holds_free {b = b} {w = w} {m = m} p h f = record {
  is = λ c t hc ht.
      let e : c * m + m ≤ w * m = row_end c w m hc in
      p.is (b + c * m + t) (h (b + c * m + t) (omega arith) (omega (arith, e))) ∙ f.is c t hc ht;
}

-- the same region by a rule that agrees
pub holds_as : {a w m : ℕ} {f g : ℕ → ℕ → Float} {work : List Float} → Holds a w m f work → ((c t : ℕ) → c < w → t < m → f c t ≡ g c t) → Holds a w m g work
holds_as h e = record { is = λ c t hc ht. h.is c t hc ht ∙ e c t hc ht }

pub rows_holds : (a m w : ℕ) (g : ℕ → ℕ → Float) (old new : List Float) → new ≡ rows a m m w g old → a + w * m ≤ length old → Holds a w m g new
rows_holds a m w g old new e b = record { is = λ c t hc ht. rw e (at-rows_in nan a m m w g old c t hc ht (omega arith) (omega (arith, b))) }

-- w rows of m filled in one loop
pub fill_holds : (a w m : ℕ) (f : ℕ → Float) (g : ℕ → ℕ → Float) (old new : List Float) → new ≡ fill a (w * m) f old → a + w * m ≤ length old
    → ((c t : ℕ) → c < w → t < m → f (c * m + t) ≡ g c t) → Holds a w m g new
fill_holds a w m f g old new e b h = record {
  is = λ c t hc ht.
      let le : c * m + m ≤ w * m = row_end c w m hc in
      let is : a + c * m + t ≡ a + (c * m + t) = omega arith in
      rw (e, is) (at-fill_in nan a (w * m) f old (c * m + t) (omega (arith, le)) b ∙ h c t hc ht);
}

-- a cell by its place in the region
pub cell_is : (a m : ℕ) (work : List Float) (c t : ℕ) → at work (a + (c * m + t)) ≡ cell m a work c t
cell_is a m work c t = ap (at work) (omega arith)

-- ---- some columns of a region
pub strip_as : {a s w n : ℕ} {f g : ℕ → ℕ → Float} {work : List Float} → Strip a s w n f work → ((c t : ℕ) → c < w → t < n → f c t ≡ g c t) → Strip a s w n g work
strip_as h e = record { is = λ c t hc ht. h.is c t hc ht ∙ e c t hc ht }

-- columns that P allows to stay hold what they held
pub strip_free : {P : ℕ → Type 0} {a s w n : ℕ} {f : ℕ → ℕ → Float} {old new : List Float} → Free nan P old new
    → ((c t : ℕ) → c < w → t < n → P (a + c * s + t)) → Strip a s w n f old → Strip a s w n f new
strip_free {a = a} {s = s} p h f = record { is = λ c t hc ht. p.is (a + c * s + t) (h c t hc ht) ∙ f.is c t hc ht }

pub rows_strip : (a s n w : ℕ) (g : ℕ → ℕ → Float) (old new : List Float) → new ≡ rows a s n w g old → n ≤ s → a + n + w * s ≤ length old + s → Strip a s w n g new
rows_strip a s n w g old new e q b = record { is = λ c t hc ht. rw e (at-rows_in nan a s n w g old c t hc ht q b) }

pub rows_beside : {A : Type 0} (d : A) (a s n w : ℕ) (g : ℕ → ℕ → A) (old new : List A) → new ≡ rows a s n w g old → Free d (Beside a s w n) old new
rows_beside d a s n w g old new e = record { long = ap length e ∙ length-rows a s n w g old; is = λ i h. rw e (at-rows-out d a s n w g old i h) }

-- all columns
pub strip_holds : {a w m : ℕ} {f : ℕ → ℕ → Float} {work : List Float} → Strip a m w m f work → Holds a w m f work
strip_holds h = record { is = h.is }

-- the n columns from t on
pub holds_strip : {a w m : ℕ} {f : ℕ → ℕ → Float} {work : List Float} (t n : ℕ) → t + n ≤ m → Holds a w m f work → Strip (a + t) m w n (λ c i. f c (t + i)) work
holds_strip {a} {w} {m} {f} {work} t n le h = record {
  is = λ c i hc hi.
      let e : a + t + c * m + i ≡ a + c * m + (t + i) = omega arith in
      ap (at work) e ∙ h.is c (t + i) hc (omega arith);
}

-- t columns, then n more
pub strip_join : {a s w : ℕ} {f : ℕ → ℕ → Float} {work : List Float} (t n : ℕ) → Strip a s w t f work → Strip (a + t) s w n (λ c i. f c (t + i)) work → Strip a s w (t + n) f work
strip_join {a} {s} {w} {f} {work} t n p q = record {
  is = λ c i hc hi.
      ⊎_elim
      (λ (l : suc i ≤ t). p.is c i hc l)
      (λ (l : t < suc i).
      let e : a + c * s + i ≡ a + t + c * s + (i - t) = omega arith in
      let k : t + (i - t) ≡ i = omega arith in
      ap (at work) e ∙ q.is c (i - t) hc (omega arith) ∙ ap (f c) k)
      (le_or_lt (suc i) t);
}
