-- Tests over several things. Assumes nothing.
use Rattle.std.specs.Prelude.{List, [], ◌∷◌, Bool, false, ◌||◌, ℕ, zero, suc}

-- some number below n passes
unfoldable pub any_below : ℕ → (ℕ → Bool) → Bool
any_below zero f = false
any_below (suc n) f = any_below n f || f n

-- some element passes
unfoldable pub any : {A : Type 0} → (A → Bool) → List A → Bool
any f [] = false
any f (x ∷ xs) = f x || any f xs
