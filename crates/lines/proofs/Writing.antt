-- Laws of written bytes: runs end to end, and each kind of text one part more. Assumes nothing.
use mathlib.Core.Path.{◌≡◌, refl, sym, ◌∙◌, ap}
use mathlib.Core.List.{List, [], ◌∷◌, ◌++◌, append_assoc, append-nil}
use mathlib.Core.Bool.{Bool}
use mathlib.Core.Logic.{⊎_elim}
use Prim.Native.Nat.{ℕ, zero, suc, ◌+◌, ◌*◌, ◌/◌, ◌%◌, ◌≤◌, ◌<◌}
use native.Mathlib.Nat.{add-zero, add-suc, suc-add}
use native.Mathlib.Omega.{arith}
use lib.Dec.{eqb, eqb→eq, ltb}
use lib.Ieee.{Float, binary32, to_bits}
use lib.ListN.{length, length-append, set}
use lib.Seq.{sets}
use borrow.Author.Tests.{lt-ltb, le-ltb}
use Rattle.std.proofs.Common.{slice_index_or}
use Rattle.lists.specs.Tab.{tab}
use Rattle.lists.proofs.Every.{at_every}
use Rattle.lists.proofs.Tab.{length-tab}
use Rattle.lists.proofs.Nums.{le_or_lt}
use Rattle.lines.specs.Text.{column_of, decimal_by, decimal_of, hex_digit, hex_of, spaced_of, values_text}

-- one run after another is their joined run
pub sets_append : {A : Type 0} (l : List A) (i : ℕ) (xs ys : List A) → sets (sets l i xs) (i + length xs) ys ≡ sets l i (xs ++ ys)
sets_append l i [] ys = rw (add-zero i)
sets_append l i (x ∷ xs) ys = rw (add-suc i (length xs), sym (suc-add i (length xs))) (sets_append (set l i x) (suc i) xs ys)

-- a rule's bytes, the last one apart
pub tab_more : {A : Type 0} (n : ℕ) (f : ℕ → A) → tab (suc n) f ≡ tab n f ++ f n ∷ []
unfolding tab
tab_more zero f = refl
tab_more (suc n) f = ap (λ l. f 0 ∷ l) (tab_more n (λ i. f (suc i)))

-- the digits by their table
pub digit_at : (d : ℕ) → d < 16 → slice_index_or (48 ∷ 49 ∷ 50 ∷ 51 ∷ 52 ∷ 53 ∷ 54 ∷ 55 ∷ 56 ∷ 57 ∷ 97 ∷ 98 ∷ 99 ∷ 100 ∷ 101 ∷ 102 ∷ []) d 0 ≡ hex_digit d
unfolding hex_digit
digit_at d h = eqb→eq _ _ (at_every same 16 tt d h)
  where
    same : ℕ → Bool
    same d = eqb (slice_index_or (48 ∷ 49 ∷ 50 ∷ 51 ∷ 52 ∷ 53 ∷ 54 ∷ 55 ∷ 56 ∷ 57 ∷ 97 ∷ 98 ∷ 99 ∷ 100 ∷ 101 ∷ 102 ∷ []) d 0) (hex_digit d)

-- ---- decimal
small : (k n : ℕ) → n < 10 → decimal_by k (ltb n 10) n ≡ (48 + n) ∷ []
unfolding decimal_by
small zero n h = let e : n % 10 ≡ n = omega arith in rw e
small (suc k) n h = rw (lt-ltb n 10 h)

-- more places than enough change nothing
places : (j k n : ℕ) → n ≤ j → n ≤ k → decimal_by j (ltb n 10) n ≡ decimal_by k (ltb n 10) n
unfolding decimal_by
places zero k n hj hk = small 0 n (omega arith) ∙ sym (small k n (omega arith))
places (suc j) zero n hj hk = small (suc j) n (omega arith) ∙ sym (small 0 n (omega arith))
places (suc j) (suc k) n hj hk =
    ⊎_elim
    (λ le. rw (le-ltb n 10 le, places j k (n / 10) (omega arith) (omega arith)))
    (λ lt. small (suc j) n lt ∙ sym (small (suc k) n lt))
    (le_or_lt 10 n)

pub decimal_small : (n : ℕ) → n < 10 → decimal_of n ≡ (48 + n) ∷ []
unfolding decimal_of
decimal_small n h = small n n h

in_more : (k n : ℕ) → n ≤ k → 10 ≤ n → decimal_by k (ltb n 10) n ≡ decimal_of (n / 10) ++ (48 + n % 10) ∷ []
unfolding decimal_by decimal_of
in_more zero n hk h = absurd (omega arith)
in_more (suc k) n hk h = rw (le-ltb n 10 h, places k (n / 10) (n / 10) (omega arith) (omega arith))

pub decimal_more : (n : ℕ) → 10 ≤ n → decimal_of n ≡ decimal_of (n / 10) ++ (48 + n % 10) ∷ []
unfolding decimal_of
decimal_more n h = in_more n n (omega arith) h

pub length_small : (n : ℕ) → n < 10 → length (decimal_of n) ≡ 1
length_small n h = ap length (decimal_small n h)

pub length_more : (n : ℕ) → 10 ≤ n → length (decimal_of n) ≡ length (decimal_of (n / 10)) + 1
length_more n h = ap length (decimal_more n h) ∙ length-append (decimal_of (n / 10)) ((48 + n % 10) ∷ [])

-- a number of at most ten places
longer : (b k : ℕ) → ((n : ℕ) → n < b → length (decimal_of n) ≤ k) → 1 ≤ k → (n : ℕ) → n < 10 * b → length (decimal_of n) ≤ k + 1
longer b k f h n lt = ⊎_elim (λ le. omega (arith, length_more n le, f (n / 10) (omega arith))) (λ l. omega (arith, length_small n l)) (le_or_lt 10 n)

pub ten_places : (n : ℕ) → n < 10000000000 → length (decimal_of n) ≤ 10
ten_places =
    longer 1000000000 9 (longer 100000000 8 (longer 10000000 7 (longer 1000000 6 (longer 100000 5 (longer 10000 4 (longer 1000 3 (longer 100 2 (longer 10 1
    (λ n h. omega (arith, length_small n h)) (omega arith)) (omega arith)) (omega arith)) (omega arith)) (omega arith)) (omega arith)) (omega arith)) (omega arith)) (omega arith)

-- ---- numbers
pub length_hex : (v : ℕ) → length (hex_of v) ≡ 8
unfolding hex_of
length_hex v = length-tab 8 _

pub length_spaced : (x : Float) → length (spaced_of x) ≡ 9
unfolding spaced_of
length_spaced x = ap suc (length_hex (to_bits binary32 x))

pub length_values : (xs : List Float) → length (values_text xs) ≡ 9 * length xs
unfolding values_text
length_values [] = refl
length_values (x ∷ xs) = length-append (spaced_of x) (values_text xs) ∙ omega (arith, length_spaced x, length_values xs)

pub values_append : (xs ys : List Float) → values_text (xs ++ ys) ≡ values_text xs ++ values_text ys
unfolding values_text
values_append [] ys = refl
values_append (x ∷ xs) ys = rw (values_append xs ys) (sym (append_assoc (spaced_of x) (values_text xs) (values_text ys)))

pub values_more : (n : ℕ) (f : ℕ → Float) → values_text (tab (suc n) f) ≡ values_text (tab n f) ++ spaced_of (f n)
unfolding values_text tab
values_more zero f = append-nil (spaced_of (f 0))
values_more (suc n) f = rw (values_more n (λ i. f (suc i))) (sym (append_assoc (spaced_of (f 0)) (values_text (tab n (λ i. f (suc i)))) (spaced_of (f (suc n)))))

pub length_column : (n t w : ℕ) (l : List Float) → length (column_of n t w l) ≡ w
unfolding column_of
length_column n t w l = length-tab w _
