-- The recurrence with its columns numbered, which is how turns speak of them, is the recurrence over their list. And columns joined end to end.
-- Assumes nothing.
use mathlib.Core.Path.{◌≡◌, refl, ◌∙◌, ap}
use mathlib.Core.List.{List, [], ◌∷◌, ◌++◌}
use Prim.Native.Nat.{ℕ, zero, suc}
use Rattle.turns.specs.Grid.{through, stepped, states_after, columns_after}

module _ {S A : Type 0} (next : ℕ → S → A → S) (out : ℕ → S → A → A) where
  -- joined columns: the second go on where the first stopped
  pub states_join : (st : ℕ → S) (xs ys : List A) → states_after next out st (xs ++ ys) ≡ states_after next out (states_after next out st xs) ys
  unfolding states_after
  states_join st [] ys = refl
  states_join st (v ∷ vs) ys = states_join (stepped next out st v) vs ys

  pub columns_join : (k : ℕ) (st : ℕ → S) (xs ys : List A)
      → columns_after next out k st (xs ++ ys) ≡ columns_after next out k st xs ++ columns_after next out k (states_after next out st xs) ys
  unfolding states_after columns_after
  columns_join k st [] ys = refl
  columns_join k st (v ∷ vs) ys = ap (λ l. through next out st v k ∷ l) (columns_join k (stepped next out st v) vs ys)

  module _ (init : ℕ → S) (x : ℕ → A) where
    -- x 0, x 1, .. x (n - 1)
    abbrev pub up_to : ℕ → List A
    up_to zero = []
    up_to (suc n) = up_to n ++ x n ∷ []

    -- what stage k remembers after t columns
    unfoldable pub states_at : ℕ → ℕ → S
    states_at zero k = init k
    states_at (suc t) k = stepped next out (states_at t) (x t) k

    -- column t past the first k stages
    unfoldable pub column_at : ℕ → ℕ → A
    column_at k t = through next out (states_at t) (x t) k

    pub states_are : (t : ℕ) → states_after next out init (up_to t) ≡ states_at t
    unfolding states_after states_at
    states_are zero = refl
    states_are (suc t) = states_join init (up_to t) (x t ∷ []) ∙ ap (λ st. stepped next out st (x t)) (states_are t)

    -- f 0, .. f (n - 1)
    abbrev pub listed : (ℕ → A) → ℕ → List A
    listed f zero = []
    listed f (suc n) = listed f n ++ f n ∷ []

    pub columns_are : (k t : ℕ) → columns_after next out k init (up_to t) ≡ listed (column_at k) t
    unfolding columns_after column_at
    columns_are k zero = refl
    columns_are k (suc t) =
        columns_join k init (up_to t) (x t ∷ [])
        ∙ ap (λ l. l ++ through next out (states_after next out init (up_to t)) (x t) k ∷ []) (columns_are k t)
        ∙ ap (λ st. listed (column_at k) t ++ through next out st (x t) k ∷ []) (states_are t)
