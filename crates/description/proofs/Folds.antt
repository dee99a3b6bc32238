-- Laws on tests over several things, in the direction of a loop. Assumes nothing.
use mathlib.Core.Path.{◌≡◌, refl, sym, ◌∙◌, ap}
use mathlib.Core.Bool.{Bool, true, false, or_assoc, or-true, ◌||◌}
use mathlib.Core.List.{List, [], ◌∷◌, ◌++◌}
use mathlib.Core.Logic.{⊎_elim}
use Prim.Native.Nat.{ℕ, zero, suc, ◌+◌, ◌*◌, ◌<◌}
use native.Mathlib.Nat.{eq-or-lt_of_le, le_of_suc-le-suc, mul-le-mul_left, mul-suc, mul-zero, not-suc-le-zero}
use native.Mathlib.Numerals.{add-one}
use native.Mathlib.Omega.{arith}
use lib.ListN.{get_or, length, length-append, get_or-append}
use lib.Seq.{get_or-append-add}
use Rattle.description.specs.Parts.{each_layer}
use Rattle.description.specs.Tests.{any, any_below}

pub left_false : (a b : Bool) → (a || b) ≡ false → a ≡ false
left_false false b e = refl
left_false true b e = e

pub right_false : (a b : Bool) → (a || b) ≡ false → b ≡ false
right_false false b e = e
right_false true b e = let z : ◌≡◌ {A = ℕ} 0 1 = cc in absurd (omega arith)

-- one more
pub any_more : (n : ℕ) (f : ℕ → Bool) {b : Bool} → b ≡ any_below n f → (b || f n) ≡ any_below (n + 1) f
unfolding any_below
any_more n f e = rw (add-one, e)

-- all of them, once the count is reached
pub any_end : (n m : ℕ) (f : ℕ → Bool) {b : Bool} → b ≡ any_below n f → n ≡ m → b ≡ any_below m f
any_end n m f e h = rw h at e

-- where none passes, each fails
pub none_below : (n : ℕ) (f : ℕ → Bool) → any_below n f ≡ false → (i : ℕ) → i < n → f i ≡ false
unfolding any_below
none_below zero f e i lt = absurd (not-suc-le-zero lt)
none_below (suc n) f e i lt =
    ⊎_elim (λ q. rw q (right_false (any_below n f) (f n) e)) (λ l. none_below n f (left_false (any_below n f) (f n) e) i l)
    (eq-or-lt_of_le {n = i} {m = n} (le_of_suc-le-suc lt))

-- where one passes, some does
pub some_below : (n : ℕ) (f : ℕ → Bool) (i : ℕ) → i < n → f i ≡ true → any_below n f ≡ true
unfolding any_below
some_below zero f i lt e = absurd (not-suc-le-zero lt)
some_below (suc n) f i lt e =
    ⊎_elim (λ q. let h : f n ≡ true = rw q at e in rw (h, or-true (any_below n f))) (λ l. rw (some_below n f i l e))
    (eq-or-lt_of_le {n = i} {m = n} (le_of_suc-le-suc lt))

pub any_append : {A : Type 0} (f : A → Bool) (xs ys : List A) → any f (xs ++ ys) ≡ (any f xs || any f ys)
unfolding any
any_append f [] ys = refl
any_append f (x ∷ xs) ys = rw (any_append f xs ys) (sym (or_assoc (f x) (any f xs) (any f ys)))

-- where none of a list passes, the one at each place fails, and so does what stands past the end
pub none_of : {A : Type 0} (f : A → Bool) (z : A) (xs : List A) → any f xs ≡ false → f z ≡ false → (i : ℕ) → f (get_or xs i z) ≡ false
unfolding any
none_of f z [] e h i = h
none_of f z (x ∷ xs) e h zero = left_false (f x) (any f xs) e
none_of f z (x ∷ xs) e h (suc i) = none_of f z xs (right_false (f x) (any f xs) e) h i

-- layers end to end: each has m elements, so element k of layer l is element m l + k
pub length_each : {A : Type 0} (f : ℕ → List A) (m : ℕ) → ((l : ℕ) → length (f l) ≡ m) → (n : ℕ) → length (each_layer f n) ≡ m * n
unfolding each_layer
length_each f m h zero = sym (mul-zero m)
length_each f m h (suc n) = length-append (each_layer f n) (f n) ∙ rw (length_each f m h n, h n) (sym (mul-suc m n))

pub each_at : {A : Type 0} (f : ℕ → List A) (m : ℕ) → ((l : ℕ) → length (f l) ≡ m) → (z : A) (n l k : ℕ) → l < n → k < m
    → get_or (each_layer f n) (m * l + k) z ≡ get_or (f l) k z
unfolding each_layer
each_at f m h z zero l k lt km = absurd (not-suc-le-zero lt)
each_at f m h z (suc n) l k lt km =
    ⊎_elim
    (λ q.
    let e : length (each_layer f n) + k ≡ m * l + k = ap (λ (x : ℕ). x + k) (length_each f m h n ∙ ap (λ (x : ℕ). m * x) (sym q)) in
    rw (← e) (get_or-append-add (each_layer f n) (f n) k z ∙ ap (λ (l : ℕ). get_or (f l) k z) (sym q)))
    (λ less.
    get_or-append (each_layer f n) (f n) z (m * l + k) (rw (length_each f m h n) (omega (arith, mul-le-mul_left {m = suc l} {n = n} m less, mul-suc m l)))
    ∙ each_at f m h z n l k less km)
    (eq-or-lt_of_le {n = l} {m = n} (le_of_suc-le-suc lt))
