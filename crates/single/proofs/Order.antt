-- The order of the floats without a sign is the order of their patterns, in either format, and the floats with one are theirs turned round.
-- So a test on patterns is a test on values: `le→bits` and `bits→le` for floats without a sign, `neg_bits` and `neg-le` for the others.
-- Assumes nothing.
use mathlib.Core.Path.{◌≡◌, refl, sym, ap, ◌∙◌, subst}
use mathlib.Core.Logic.{◌⊎◌, inl, inr, ⊎_elim}
use mathlib.Core.Bool.{Bool, true, false, not, ◌&&◌, ◌||◌, cond}
use Prim.Native.Nat.{ℕ, zero, suc, ◌+◌, ◌-◌, ◌*◌, ◌/◌, ◌%◌, ◌^◌, ◌≤◌, ◌<◌}
use native.Mathlib.Nat.{le_refl, le_of_lt, le_of_eq, le_trans, lt_of_le_of_lt, le_antisymm, eq-or-lt_of_le, suc-mul, mul-le-mul_right, mul_right_comm, mul_comm, mul-lt-mul_of_pos_right, le-div_iff_mul-le, div-lt_iff_lt-mul, zero-add, zero-mul, zero-div, mul-pos}
use native.Mathlib.Omega.{arith}
use borrow.Author.Tests.{lt-ltb, le-ltb, lt-leb, eq-eqb}
use lib.IntN.{ℤ, pos}
use lib.Dec.{T, ltb, leb, eqb, eqb→eq, ltb→lt, lit<}
use lib.Pow.{pow-add, pow_pos, shr_mono}
use lib.Ieee.{Float, nan, inf, fin, Format, binary32, binary64, prec, emax, low, up, down, size, hid, ones, top, to_bits, of_bits, of_fields, odd, fits, lt, le, neg}
use lib.Ieee.Digits.{size-lt, size-le, size_reaches}
use lib.Ieee.Fits.{and_l, and_r, kept-lt, down_pos, up_pos, two, two-le_pos}
use lib.Ieee.Bits.{of_bits-to_bits}
use lib.Ieee.Nearest.{div_mono}
use lib.Ieee.Positive.{positive, above, above_of_le}
use Rattle.lists.proofs.Nums.{le_or_lt}

-- ---- A pattern's number, of a magnitude of n units of the format's smallest value: the digits that are kept, p of them, and how many were dropped.
digits : ℕ → ℕ → ℕ
digits p n = (size n - p) * 2 ^ (p - 1) + n / 2 ^ (size n - p)

size_mono : (a b : ℕ) → a ≤ b → size a ≤ size b
size_mono a b h = size-le a (size b) (lt_of_le_of_lt h (size-lt b))

-- where digits are dropped, the leading one of those kept is there
leading : (p n : ℕ) → 0 < p → 0 < size n - p → 2 ^ (p - 1) ≤ n / 2 ^ (size n - p)
leading p n P K =
    let k = size n - p in
    (le-div_iff_mul-le (pow_pos k)).1 (subst (λ (z : ℕ). z ≤ n) (pow-add 2 (p - 1) k) (size_reaches n (p - 1 + k) (omega arith)))

double : (p : ℕ) → 0 < p → 2 ^ p ≡ 2 ^ (p - 1) * 2
double p P = let e : p ≡ p - 1 + 1 = omega arith in ap (λ (i : ℕ). 2 ^ i) e ∙ pow-add 2 (p - 1) 1

digits_mono : (p a b : ℕ) → 0 < p → a ≤ b → digits p a ≤ digits p b
unfolding digits
digits_mono p a b P h =
    let j = size a - p in
    let k = size b - p in
    let s = size_mono a b h in
    let jk : j ≤ k = omega arith in
    elim (eq-or-lt_of_le jk) [
      | inl e ↦ subst (λ (i : ℕ). i * 2 ^ (p - 1) + a / 2 ^ i ≤ k * 2 ^ (p - 1) + b / 2 ^ k) (sym e) (omega (arith, shr_mono k h))
      | inr l ↦
          let pos-k : 0 < k = omega arith in
          omega (arith, kept-lt p a, double p P, leading p b P pos-k, mul-le-mul_right {m = suc j} {n = k} (2 ^ (p - 1)) l, suc-mul j (2 ^ (p - 1)))
    ]

-- ---- Floats without a sign
abbrev pub unsigned : Float → Bool
unsigned nan = false
unsigned (inf s) = not s
unsigned (fin s m e) = not s

-- the magnitude in the format's smallest values, an infinity's as if it were the next after the largest
abbrev amount : Format → Float → ℕ
amount f nan = 0
amount f (inf s) = 2 ^ (low f + suc (emax f))
amount f (fin s m e) = m * up e * 2 ^ low f / down e

infinite : (f : Format) → ones f * hid f ≡ digits (prec f) (2 ^ (low f + suc (emax f)))
unfolding digits size
infinite binary32 = refl
infinite binary64 = refl

bits_are : (f : Format) (x : Float) → T (unsigned x) → to_bits f x ≡ digits (prec f) (amount f x)
unfolding to_bits digits
bits_are f nan t = absurd t
bits_are f (inf true) t = absurd t
bits_are f (inf false) t = zero-add (ones f * hid f) ∙ infinite f
bits_are f (fin true m e) t = absurd t
bits_are f (fin false m e) t =
    let n = m * up e * 2 ^ low f / down e in
    ap (λ (z : ℕ). z + n / 2 ^ (size n - prec f)) (zero-add ((size n - prec f) * hid f))

or_split : (a b : Bool) → T (a || b) → T a ⊎ T b
or_split true b t = inl tt
or_split false b t = inr t

-- what `le` tests of two magnitudes
pub test→le : (a b : ℕ) → T (ltb a b || (eqb a b && true)) → a ≤ b
test→le a b t = ⊎_elim (λ u. le_of_lt (ltb→lt a b u)) (λ u. le_of_eq (eqb→eq a b (and_l (eqb a b) true u))) (or_split (ltb a b) (eqb a b && true) t)

pub or-true : (t : Bool) → T (t || true)
or-true true = tt
or-true false = tt

le→test : (a b : ℕ) → a ≤ b → T (ltb a b || (eqb a b && true))
le→test a b h = ⊎_elim (λ e. rw (eq-eqb a b e) (or-true (ltb a b))) (λ l. rw (lt-ltb a b l) tt) (eq-or-lt_of_le h)

-- a float that fits is below 2 ^ (emax + 1)
amount_lt : (f : Format) (m : ℕ) (e : ℤ) → T (fits f (fin false m e)) → m * up e * 2 ^ low f / down e < 2 ^ (low f + suc (emax f))
unfolding fits
amount_lt f zero e t = simp (zero-mul, zero-div) (pow_pos (low f + suc (emax f)))
amount_lt f (suc m) e t =
    let l = 2 ^ low f in
    let h = ltb→lt (suc m * up e) (2 ^ suc (emax f) * down e) (and_r (eqb (suc m % 2) 1 && ltb (suc m) (2 ^ prec f) && leb (down e) (2 ^ low f)) (ltb (suc m * up e) (2 ^ suc (emax f) * down e)) t) in
    (div-lt_iff_lt-mul (down_pos e)).1
    (subst (λ (z : ℕ). suc m * up e * l < z)
    (mul_right_comm (2 ^ suc (emax f)) (down e) l ∙ ap (λ (z : ℕ). z * down e) (mul_comm (2 ^ suc (emax f)) l ∙ sym (pow-add 2 (low f) (suc (emax f)))))
    (mul-lt-mul_of_pos_right h (pow_pos (low f))))

le_amount : (f : Format) (x y : Float) → T (unsigned x) → T (unsigned y) → T (fits f x) → T (le x y) → amount f x ≤ amount f y
unfolding le
le_amount f nan y p q i h = absurd p
le_amount f (inf true) y p q i h = absurd p
le_amount f (inf false) nan p q i h = absurd q
le_amount f (inf false) (inf t) p q i h = le_refl _
le_amount f (inf false) (fin t n d) p q i h = absurd h
le_amount f (fin true m e) y p q i h = absurd p
le_amount f (fin false m e) nan p q i h = absurd q
le_amount f (fin false m e) (inf t) p q i h = le_of_lt (amount_lt f m e i)
le_amount f (fin false m e) (fin true n d) p q i h = absurd q
le_amount f (fin false m e) (fin false n d) p q i h =
    let a = m * up e in
    let b = n * up d in
    let l = 2 ^ low f in
    div_mono (a * l) (down e) (b * l) (down d) (down_pos e) (down_pos d)
    (le_trans (le_of_eq (mul_right_comm a l (down d)))
    (le_trans (mul-le-mul_right l (test→le (a * down d) (b * down e) h)) (le_of_eq (mul_right_comm b (down e) l))))

-- ---- the order is the patterns'
pub le→bits : (f : Format) (x y : Float) → T (unsigned x) → T (unsigned y) → T (fits f x) → T (le x y) → to_bits f x ≤ to_bits f y
le→bits f x y p q i h =
    rw (bits_are f x p, bits_are f y q) (digits_mono (prec f) (amount f x) (amount f y) (two-le_pos (prec f) (two f)) (le_amount f x y p q i h))

-- up to the infinity's, which is below the sign's bit
amount_le : (f : Format) (x : Float) → T (unsigned x) → T (fits f x) → amount f x ≤ 2 ^ (low f + suc (emax f))
amount_le f nan p i = absurd p
amount_le f (inf s) p i = le_refl _
amount_le f (fin true m e) p i = absurd p
amount_le f (fin false m e) p i = le_of_lt (amount_lt f m e i)

pub bits_le : (f : Format) (x : Float) → T (unsigned x) → T (fits f x) → to_bits f x ≤ ones f * hid f
bits_le f x p i =
    rw (bits_are f x p, infinite f) (digits_mono (prec f) (amount f x) (2 ^ (low f + suc (emax f))) (two-le_pos (prec f) (two f)) (amount_le f x p i))

-- of two floats without a sign one is no larger than the other
total : (x y : Float) → T (unsigned x) → T (unsigned y) → T (le x y) ⊎ T (le y x)
unfolding le
total nan y p q = absurd p
total (inf true) y p q = absurd p
total (inf false) nan p q = absurd q
total (inf false) (inf true) p q = absurd q
total (inf false) (inf false) p q = inl tt
total (inf false) (fin true n d) p q = absurd q
total (inf false) (fin false n d) p q = inr tt
total (fin true m e) y p q = absurd p
total (fin false m e) nan p q = absurd q
total (fin false m e) (inf true) p q = absurd q
total (fin false m e) (inf false) p q = inl tt
total (fin false m e) (fin true n d) p q = absurd q
total (fin false m e) (fin false n d) p q =
    let a = m * up e * down d in
    let b = n * up d * down e in
    ⊎_elim (λ l. inl (le→test a b l)) (λ l. inr (le→test b a (le_of_lt l))) (le_or_lt a b)

itself : (x : Float) → T (unsigned x) → T (le x x)
itself x p = ⊎_elim (λ t. t) (λ t. t) (total x x p p)

pub bits→le : (f : Format) (x y : Float) → T (unsigned x) → T (unsigned y) → T (fits f x) → T (fits f y) → to_bits f x ≤ to_bits f y → T (le x y)
bits→le f x y p q i j h =
    ⊎_elim (λ t. t)
    (λ t.
    let e = le_antisymm h (le→bits f y x q p j t) in
    subst (λ (z : Float). T (le x z)) (sym (of_bits-to_bits f x i) ∙ ap (of_bits f) e ∙ of_bits-to_bits f y j) (itself x p))
    (total x y p q)

-- ---- floats with a sign
pub neg_neg : (x : Float) → neg (neg x) ≡ x
unfolding neg
neg_neg nan = refl
neg_neg (inf true) = refl
neg_neg (inf false) = refl
neg_neg (fin true m e) = refl
neg_neg (fin false m e) = refl

pub neg_bits : (f : Format) (x : Float) → T (unsigned x) → to_bits f (neg x) ≡ top f + to_bits f x
unfolding neg to_bits
neg_bits f nan p = absurd p
neg_bits f (inf true) p = absurd p
neg_bits f (inf false) p = omega arith
neg_bits f (fin true m e) p = absurd p
neg_bits f (fin false m e) p = omega arith

pub signed_bits : (f : Format) (x : Float) → T (unsigned (neg x)) → to_bits f x ≡ top f + to_bits f (neg x)
signed_bits f x p = ap (to_bits f) (sym (neg_neg x)) ∙ neg_bits f (neg x) p

pub neg_le : (x y : Float) → T (unsigned x) → T (unsigned y) → T (le (neg x) (neg y)) → T (le y x)
unfolding neg le
neg_le nan y p q h = absurd p
neg_le (inf true) y p q h = absurd p
neg_le (inf false) nan p q h = absurd q
neg_le (inf false) (inf true) p q h = absurd q
neg_le (inf false) (inf false) p q h = tt
neg_le (inf false) (fin true n d) p q h = absurd q
neg_le (inf false) (fin false n d) p q h = tt
neg_le (fin true m e) y p q h = absurd p
neg_le (fin false m e) nan p q h = absurd q
neg_le (fin false m e) (inf true) p q h = absurd q
neg_le (fin false m e) (inf false) p q h = absurd h
neg_le (fin false m e) (fin true n d) p q h = absurd q
neg_le (fin false m e) (fin false n d) p q h =
    let a = m * up e * down d in
    let b = n * up d * down e in
    le→test b a
    (⊎_elim (λ u. le_of_lt (ltb→lt b a u)) (λ u. le_of_eq (sym (eqb→eq a b (and_l (eqb a b) true u)))) (or_split (ltb b a) (eqb a b && true) h))

-- ---- which floats have a sign, by the order: what is no less than a positive float has none, and what is no more than a negative one has
pub unsigned_of_le : (y x : Float) → T (positive y) → T (le y x) → T (unsigned x)
unsigned_of_le y x p h = above_unsigned x (above_of_le y x p h)
  where
    above_unsigned : (x : Float) → T (above x) → T (unsigned x)
    above_unsigned nan t = absurd t
    above_unsigned (inf s) t = t
    above_unsigned (fin true m e) t = absurd t
    above_unsigned (fin false m e) t = tt

pub signed_of_le : (y x : Float) → T (positive y) → T (le x (neg y)) → T (unsigned (neg x))
unfolding neg le
signed_of_le nan x p h = absurd p
signed_of_le (inf s) x p h = absurd p
signed_of_le (fin true n d) x p h = absurd p
signed_of_le (fin false n d) nan p h = absurd h
signed_of_le (fin false n d) (inf true) p h = tt
signed_of_le (fin false n d) (inf false) p h = absurd h
signed_of_le (fin false n d) (fin true m e) p h = tt
signed_of_le (fin false n d) (fin false m e) p h =
    let a = m * up e * down d in
    let b = n * up d * down e in
    let same = eqb→eq a b (and_l (eqb a b) (eqb a 0) h) in
    let none = eqb→eq a 0 (and_r (eqb a b) (eqb a 0) h) in
    let some = mul-pos (mul-pos (ltb→lt 0 n p) (up_pos d)) (down_pos e) in
    absurd (omega arith)

-- ---- a pattern below the sign's bit has no sign: it is a NaN's or a float's without one
abbrev pub signless : Float → Bool
signless nan = true
signless (inf s) = not s
signless (fin s m e) = not s

odd_signless : (d q k l : ℕ) → T (signless (odd d false q k l))
unfolding odd
odd_signless d zero k l = tt
odd_signless d (suc q) k l = tt

cond_signless : (t : Bool) (x y : Float) → T (signless x) → T (signless y) → T (signless (cond t x y))
cond_signless true x y p q = p
cond_signless false x y p q = q

fields_signless : (f : Format) (x t : ℕ) → T (signless (of_fields f false x t))
unfolding of_fields
fields_signless f zero t = odd_signless (prec f) t 0 (low f)
fields_signless f (suc x) t =
    cond_signless (eqb (suc x) (ones f)) (cond (eqb t 0) (inf false) nan) (odd (prec f) false (hid f + t) x (low f))
    (cond_signless (eqb t 0) (inf false) nan tt tt) (odd_signless (prec f) (hid f + t) x (low f))

pub pattern_signless : (f : Format) (b : ℕ) → b < top f → T (signless (of_bits f b))
unfolding of_bits
pattern_signless f b h = rw (lt-leb (top f) b h) (fields_signless f (b % top f / hid f) (b % hid f))

-- it is not below +0, it is not -0, and its own pattern is below the sign's bit
pub signless_lt : (x : Float) → T (signless x) → lt x (fin false 0 (pos 0)) ≡ false
unfolding lt
signless_lt nan p = refl
signless_lt (inf true) p = absurd p
signless_lt (inf false) p = refl
signless_lt (fin true m e) p = absurd p
signless_lt (fin false m e) p = le-ltb (m * up e * 1) (0 * down e) (omega (arith, zero-mul (down e)))

pub signless_zero : (x : Float) → T (signless x) → x ≡ fin true 0 (pos 0) → ⊥
signless_zero x p e = subst (λ (z : Float). T (signless z)) e p

pub infinity_lt : (f : Format) → ones f * hid f < top f
infinity_lt binary32 = lit< tt
infinity_lt binary64 = lit< tt

nan_lt : (f : Format) → to_bits f nan < top f
unfolding to_bits
nan_lt binary32 = lit< tt
nan_lt binary64 = lit< tt

pub signless_bits : (f : Format) (x : Float) → T (signless x) → T (fits f x) → to_bits f x < top f
signless_bits f nan p i = nan_lt f
signless_bits f (inf s) p i = lt_of_le_of_lt (bits_le f (inf s) p i) (infinity_lt f)
signless_bits f (fin s m e) p i = lt_of_le_of_lt (bits_le f (fin s m e) p i) (infinity_lt f)
