-- Laws on lists by a rule. d stands for what is read past the end. Assumes nothing.
use mathlib.Core.Path.{◌≡◌, refl, sym, ◌∙◌, ap}
use mathlib.Core.List.{List}
use Prim.Native.Nat.{ℕ, zero, suc, ◌<◌}
use native.Mathlib.Nat.{not-suc-le-zero, le_of_suc-le-suc}
use native.Mathlib.Omega.{arith}
use lib.ListN.{length, get_or}
use lib.Seq.{ext_get_or}
use Rattle.lists.specs.Tab.{tab}

module _ {A : Type 0} where
  pub length-tab : (n : ℕ) (f : ℕ → A) → length (tab n f) ≡ n
  unfolding tab
  length-tab zero f = refl
  length-tab (suc n) f = ap suc (length-tab n (λ i. f (suc i)))

module _ {A : Type 0} (d : A) where
  pub at-tab : (n : ℕ) (f : ℕ → A) (i : ℕ) → i < n → get_or (tab n f) i d ≡ f i
  unfolding tab
  at-tab zero f i h = absurd (not-suc-le-zero h)
  at-tab (suc n) f zero h = refl
  at-tab (suc n) f (suc i) h = at-tab n (λ k. f (suc k)) i (le_of_suc-le-suc h)

  -- a list is the table of a rule that it follows
  pub is_tab : (l : List A) (n : ℕ) (f : ℕ → A) → length l ≡ n → ((i : ℕ) → i < n → get_or l i d ≡ f i) → l ≡ tab n f
  is_tab l n f e h =
      ext_get_or d l (tab n f) (e ∙ sym (length-tab n f)) (λ i lt. h i (omega arith) ∙ sym (at-tab n f i (omega arith)))

  pub tab_ext : (n : ℕ) (f g : ℕ → A) → ((i : ℕ) → i < n → f i ≡ g i) → tab n f ≡ tab n g
  tab_ext n f g h = is_tab (tab n f) n g (length-tab n f) (λ i lt. at-tab n f i lt ∙ h i lt)

  pub self_tab : (l : List A) → l ≡ tab (length l) (λ i. get_or l i d)
  self_tab l = is_tab l (length l) (λ i. get_or l i d) refl (λ i h. refl)
