-- Laws on sums in a fixed order. Assumes nothing.
use mathlib.Core.Path.{◌≡◌, refl, ap, ◌∙◌}
use Prim.Native.Nat.{ℕ, zero, suc, ◌+◌, ◌<◌}
use native.Mathlib.Nat.{add-zero, add-suc}
use native.Mathlib.Numerals.{add-one}
use native.Mathlib.Omega.{arith}
use lib.Ieee.{Float, binary32, add}
use Rattle.single.specs.Sum.{sum_from}

pub sum_none : (start : Float) (term : ℕ → Float) → sum_from start 0 term ≡ start
unfolding sum_from
sum_none start term = refl

pub sum_more : (start : Float) (n : ℕ) (term : ℕ → Float) → add binary32 (sum_from start n term) (term n) ≡ sum_from start (n + 1) term
unfolding sum_from
sum_more start n term = rw add-one

pub sum_ext : (start : Float) (n : ℕ) (f g : ℕ → Float) → ((j : ℕ) → j < n → f j ≡ g j) → sum_from start n f ≡ sum_from start n g
unfolding sum_from
sum_ext start zero f g h = refl
sum_ext start (suc n) f g h =
    ap (λ (x : Float). add binary32 x (f n)) (sum_ext start n f g (λ j lt. h j (omega arith)))
    ∙ ap (λ (x : Float). add binary32 (sum_from start n g) x) (h n (omega arith))

-- a sum in two stretches
pub sum_join : (start : Float) (n k : ℕ) (f : ℕ → Float) → sum_from (sum_from start n f) k (λ j. f (n + j)) ≡ sum_from start (n + k) f
unfolding sum_from
sum_join start n zero f = rw add-zero
sum_join start n (suc k) f = rw (add-suc, sum_join start n k f)
