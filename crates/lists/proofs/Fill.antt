-- Laws on filled lists. d stands for what is read past the end. Assumes nothing.
use mathlib.Core.Path.{◌≡◌, refl, sym, ◌∙◌, ap}
use mathlib.Core.List.{List}
use mathlib.Core.Logic.{⊎_elim}
use Prim.Native.Nat.{ℕ, zero, suc, ◌+◌, ◌-◌, ◌≤◌, ◌<◌}
use native.Mathlib.Nat.{zero-add, add-zero, add-suc, not-suc-le-zero, le_of_suc-le-suc, eq-or-lt_of_le}
use native.Mathlib.Numerals.{add-one}
use native.Mathlib.Omega.{arith}
use lib.ListN.{length, get_or, set, length-set}
use lib.Seq.{get_or-set_same, get_or-set_other, ext_get_or}
use Rattle.lists.specs.Tab.{tab, fill}
use Rattle.lists.specs.Region.{Apart}
use Rattle.lists.proofs.Nums.{le_or_lt}
use Rattle.lists.proofs.Tab.{is_tab}

module _ {A : Type 0} where
  pub fill_none : (a : ℕ) (f : ℕ → A) (old : List A) → fill a 0 f old ≡ old
  unfolding fill
  fill_none a f old = refl

  -- one more store, as a loop makes it: what it stores is the rule's
  pub fill_turn : (out old : List A) (a n : ℕ) (f : ℕ → A) (v : A) → out ≡ fill a n f old → v ≡ f n → set out (a + n) v ≡ fill a (n + 1) f old
  unfolding fill
  fill_turn out old a n f v e h = rw (e, h, add-one)

  -- the same from the list's first place on
  pub fill_step : (out old : List A) (n : ℕ) (f : ℕ → A) (v : A) → out ≡ fill 0 n f old → v ≡ f n → set out n v ≡ fill 0 (n + 1) f old
  fill_step out old n f v e h = rw zero-add at (fill_turn out old 0 n f v e h)

  pub length-fill : (a n : ℕ) (f : ℕ → A) (old : List A) → length (fill a n f old) ≡ length old
  unfolding fill
  length-fill a zero f old = refl
  length-fill a (suc n) f old = length-set (fill a n f old) (a + n) (f n) ∙ length-fill a n f old

  pub fill_ext : (a n : ℕ) (f g : ℕ → A) (old : List A) → ((k : ℕ) → k < n → f k ≡ g k) → fill a n f old ≡ fill a n g old
  unfolding fill
  fill_ext a zero f g old h = refl
  fill_ext a (suc n) f g old h = rw (fill_ext a n f g old (λ k lt. h k (omega arith)), h n (omega arith))

  -- two loops, one after the other: the second goes on where the first stopped
  pub fill_join : (a n k : ℕ) (f : ℕ → A) (old : List A) → fill (a + n) k (λ i. f (n + i)) (fill a n f old) ≡ fill a (n + k) f old
  unfolding fill
  fill_join a n zero f old = rw add-zero
  fill_join a n (suc k) f old =
      let e : a + n + k ≡ a + (n + k) = omega arith in
      rw (fill_join a n k f old, add-suc, e)

module _ {A : Type 0} (d : A) where
  pub at-fill_below : (a n : ℕ) (f : ℕ → A) (old : List A) (i : ℕ) → i < a → get_or (fill a n f old) i d ≡ get_or old i d
  unfolding fill
  at-fill_below a zero f old i h = refl
  at-fill_below a (suc n) f old i h = get_or-set_other (fill a n f old) (a + n) i (f n) d (λ e. omega arith) ∙ at-fill_below a n f old i h

  pub at-fill_above : (a n : ℕ) (f : ℕ → A) (old : List A) (i : ℕ) → a + n ≤ i → get_or (fill a n f old) i d ≡ get_or old i d
  unfolding fill
  at-fill_above a zero f old i h = refl
  at-fill_above a (suc n) f old i h =
      get_or-set_other (fill a n f old) (a + n) i (f n) d (λ e. omega arith) ∙ at-fill_above a n f old i (omega arith)

  pub at-fill_in : (a n : ℕ) (f : ℕ → A) (old : List A) (k : ℕ) → k < n → a + n ≤ length old → get_or (fill a n f old) (a + k) d ≡ f k
  unfolding fill
  at-fill_in a zero f old k h b = absurd (not-suc-le-zero h)
  at-fill_in a (suc n) f old k h b =
      ⊎_elim
      (λ (e : k ≡ n). rw e (get_or-set_same (fill a n f old) (a + n) (f n) d (rw length-fill (omega arith))))
      (λ (lt : k < n). get_or-set_other (fill a n f old) (a + n) (a + k) (f n) d (λ e. omega arith) ∙ at-fill_in a n f old k lt (omega arith))
      (eq-or-lt_of_le (le_of_suc-le-suc h))

  -- outside of what is filled
  pub at-fill-out : (a n : ℕ) (f : ℕ → A) (old : List A) (i : ℕ) → Apart a n i 1 → get_or (fill a n f old) i d ≡ get_or old i d
  at-fill-out a n f old i h =
      ⊎_elim
      (λ (l : suc i ≤ a). at-fill_below a n f old i l)
      (λ (l : a < suc i). at-fill_above a n f old i (omega arith))
      (le_or_lt (suc i) a)

  -- what is not filled yet, or never, is as it was
  pub fill_apart : (a n i : ℕ) (f : ℕ → A) (out old : List A) → out ≡ fill a n f old → Apart a n i 1 → get_or out i d ≡ get_or old i d
  fill_apart a n i f out old e h = rw e (at-fill-out a n f old i h)

  -- a list is the filled one if it follows the rule within and is as it was outside
  pub fill_is : (a n : ℕ) (f : ℕ → A) (old l : List A) → length l ≡ length old → a + n ≤ length old
      → ((i : ℕ) → Apart a n i 1 → get_or l i d ≡ get_or old i d) → ((k : ℕ) → k < n → get_or l (a + k) d ≡ f k) → l ≡ fill a n f old
  fill_is a n f old l e b out within =
      ext_get_or d l (fill a n f old) (e ∙ sym (length-fill a n f old)) (λ i lt.
      ⊎_elim
      (λ (r : suc i ≤ a). out i (omega arith) ∙ sym (at-fill_below a n f old i r))
      (λ (r : a < suc i). ⊎_elim
      (λ (q : a + n ≤ i). out i (omega arith) ∙ sym (at-fill_above a n f old i q))
      (λ (q : i < a + n).
      let is : i ≡ a + (i - a) = omega arith in
      ap (λ (k : ℕ). get_or l k d) is ∙ within (i - a) (omega arith) ∙ sym (at-fill_in a n f old (i - a) (omega arith) b)
      ∙ ap (λ (k : ℕ). get_or (fill a n f old) k d) (sym is))
      (le_or_lt (a + n) i))
      (le_or_lt (suc i) a))

  pub fill_self : (a n : ℕ) (f : ℕ → A) (old : List A) → a + n ≤ length old → ((k : ℕ) → k < n → get_or old (a + k) d ≡ f k) → old ≡ fill a n f old
  fill_self a n f old b h = fill_is a n f old old refl b (λ i o. refl) h

  -- filled again: what was there before does not matter
  pub fill_over : (a n : ℕ) (f g : ℕ → A) (old : List A) → a + n ≤ length old → fill a n f (fill a n g old) ≡ fill a n f old
  fill_over a n f g old b =
      let l1 = length-fill a n g old in
      fill_is a n f old (fill a n f (fill a n g old)) (length-fill a n f (fill a n g old) ∙ l1) b
      (λ i h. at-fill-out a n f (fill a n g old) i h ∙ at-fill-out a n g old i h)
      (λ k lt. at-fill_in a n f (fill a n g old) k lt (omega (arith, l1)))

  -- two places of fill that lie apart can be filled in either order
  pub fill_swap : (a n b k : ℕ) (f g : ℕ → A) (old : List A) → Apart a n b k → a + n ≤ length old → b + k ≤ length old
      → fill a n f (fill b k g old) ≡ fill b k g (fill a n f old)
  fill_swap a n b k f g old h ha hb =
      let la = length-fill a n f old in
      let lb = length-fill b k g old in
      fill_is b k g (fill a n f old) (fill a n f (fill b k g old)) (length-fill a n f (fill b k g old) ∙ lb ∙ sym la) (omega (arith, la, hb))
      (λ i out.
      ⊎_elim
      (λ (l : suc i ≤ a). at-fill_below a n f (fill b k g old) i l ∙ at-fill-out b k g old i out ∙ sym (at-fill_below a n f old i l))
      (λ (l : a < suc i). ⊎_elim
      (λ (q : a + n ≤ i). at-fill_above a n f (fill b k g old) i q ∙ at-fill-out b k g old i out ∙ sym (at-fill_above a n f old i q))
      (λ (q : i < a + n).
      let is : i ≡ a + (i - a) = omega arith in
      ap (λ (j : ℕ). get_or (fill a n f (fill b k g old)) j d) is
      ∙ at-fill_in a n f (fill b k g old) (i - a) (omega arith) (omega (arith, lb, ha))
      ∙ sym (at-fill_in a n f old (i - a) (omega arith) ha)
      ∙ ap (λ (j : ℕ). get_or (fill a n f old) j d) (sym is))
      (le_or_lt (a + n) i))
      (le_or_lt (suc i) a))
      (λ i lt. at-fill-out a n f (fill b k g old) (b + i) (omega (arith, h, lt)) ∙ at-fill_in b k g old i lt hb)

  -- a whole list filled is a table
  pub fill_all : (n : ℕ) (f : ℕ → A) (old : List A) → length old ≡ n → fill 0 n f old ≡ tab n f
  fill_all n f old e =
      is_tab d (fill 0 n f old) n f (length-fill 0 n f old ∙ e) (λ i h. rw zero-add at (at-fill_in 0 n f old i h (omega arith)))
