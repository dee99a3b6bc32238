-- The sign of a float: it is one bit of the pattern, and `neg` changes it and nothing else. Every float but the NaN, or its negative, has none.
-- Assumes nothing.
use mathlib.Core.Path.{◌≡◌, refl, sym, ◌∙◌, subst}
use mathlib.Core.Logic.{◌⊎◌, inl, inr, ⊎_elim}
use mathlib.Core.Bool.{Bool, true, false, not, ◌&&◌, ◌||◌, cond}
use Prim.Native.Nat.{ℕ, zero, suc, ◌+◌, ◌*◌, ◌/◌, ◌%◌, ◌≤◌, ◌<◌}
use native.Mathlib.Nat.{le_trans, lt_of_le_of_lt, mod-le, eq-or-lt_of_le}
use native.Mathlib.Omega.{arith}
use borrow.Author.Tests.{lt-leb, le-leb, lt-ltb, le-ltb, eq-eqb}
use lib.Dec.{T, ltb, eqb}
use lib.Ieee.{Float, nan, inf, fin, Format, binary32, binary64, prec, low, up, down, hid, ones, top, to_bits, of_bits, of_fields, odd, fits, le, neg, is_nan}
use lib.Ieee.Fits.{neg-fits}
use lib.Ieee.Bits.{nan_bits_is, nan_bits_above}
use Rattle.single.proofs.Order.{unsigned, signless, pattern_signless, infinity_lt, bits_le, signed_bits, test→le, or-true}

-- ---- a pattern with the sign's bit is the negative of the same without it
odd_neg : (d q k l : ℕ) → odd d true q k l ≡ neg (odd d false q k l)
unfolding odd neg
odd_neg d zero k l = refl
odd_neg d (suc q) k l = refl

cond_neg : (t : Bool) (x y x' y' : Float) → x' ≡ neg x → y' ≡ neg y → cond t x' y' ≡ neg (cond t x y)
cond_neg true x y x' y' e f = e
cond_neg false x y x' y' e f = f

infinity_neg : inf true ≡ neg (inf false)
unfolding neg
infinity_neg = refl

nan_neg : nan ≡ neg nan
unfolding neg
nan_neg = refl

fields_neg : (f : Format) (x t : ℕ) → of_fields f true x t ≡ neg (of_fields f false x t)
unfolding of_fields
fields_neg f zero t = odd_neg (prec f) t 0 (low f)
fields_neg f (suc x) t =
    cond_neg (eqb (suc x) (ones f)) _ _ _ _ (cond_neg (eqb t 0) _ _ _ _ infinity_neg nan_neg) (odd_neg (prec f) (hid f + t) x (low f))

-- the digits and the field of a pattern with the sign's bit are those of the same without it
top_mod : (f : Format) (b : ℕ) → (top f + b) % top f ≡ b % top f
top_mod binary32 b = omega arith
top_mod binary64 b = omega arith

hid_mod : (f : Format) (b : ℕ) → (top f + b) % hid f ≡ b % hid f
hid_mod binary32 b = omega arith
hid_mod binary64 b = omega arith

pub with_sign : (f : Format) (b : ℕ) → b < top f → of_bits f (top f + b) ≡ neg (of_bits f b)
unfolding of_bits
with_sign f b h =
    rw (le-leb (top f) (top f + b) (omega arith), lt-leb (top f) b h, top_mod f b, hid_mod f b) (fields_neg f (b % top f / hid f) (b % hid f))

-- ---- a float that is no NaN has no sign, or its negative has none
pub sign_of : (x : Float) → T (not (is_nan x)) → T (unsigned x) ⊎ T (unsigned (neg x))
unfolding is_nan neg
sign_of nan n = absurd n
sign_of (inf true) n = inr tt
sign_of (inf false) n = inl tt
sign_of (fin true m e) n = inr tt
sign_of (fin false m e) n = inl tt

-- its pattern without the sign's bit is at most the infinity's
pub magnitude_le : (f : Format) (x : Float) → T (fits f x) → T (not (is_nan x)) → to_bits f x % top f ≤ ones f * hid f
magnitude_le f x i n =
    ⊎_elim (λ u. le_trans (mod-le (to_bits f x) (top f)) (bits_le f x u i))
    (λ u.
    rw (signed_bits f x u, top_mod f (to_bits f (neg x))) (le_trans (mod-le (to_bits f (neg x)) (top f)) (bits_le f (neg x) u (neg-fits f x i))))
    (sign_of x n)

-- and the float of such a pattern has no sign
pub pattern_number : (f : Format) (b : ℕ) → b % top f ≤ ones f * hid f → T (not (is_nan (of_bits f b)))
pattern_number f b h = subst (λ (t : Bool). T (not t)) (sym (le-ltb _ _ h) ∙ sym (nan_bits_above f b) ∙ nan_bits_is f b) tt

signless_number : (x : Float) → T (signless x) → T (not (is_nan x)) → T (unsigned x)
unfolding is_nan
signless_number nan p n = absurd n
signless_number (inf s) p n = p
signless_number (fin s m e) p n = p

pub pattern_unsigned : (f : Format) (b : ℕ) → b ≤ ones f * hid f → T (unsigned (of_bits f b))
pattern_unsigned f b h =
    signless_number (of_bits f b) (pattern_signless f b (lt_of_le_of_lt h (infinity_lt f)))
    (pattern_number f b (le_trans (mod-le b (top f)) h))

-- ---- the order: a NaN has no place in it
pub le_number : (x y : Float) → T (le x y) → T (not (is_nan x))
unfolding le is_nan
le_number nan y h = absurd h
le_number (inf s) y h = tt
le_number (fin s m e) y h = tt

-- `neg` turns it round, and a negative is no more than a float without a sign
pub le_neg : (x y : Float) → T (unsigned x) → T (unsigned y) → T (le x y) → T (le (neg y) (neg x))
unfolding neg le
le_neg nan y p q h = absurd p
le_neg (inf true) y p q h = absurd p
le_neg (inf false) nan p q h = absurd q
le_neg (inf false) (inf true) p q h = absurd q
le_neg (inf false) (inf false) p q h = tt
le_neg (inf false) (fin t n d) p q h = absurd h
le_neg (fin true m e) y p q h = absurd p
le_neg (fin false m e) nan p q h = absurd q
le_neg (fin false m e) (inf true) p q h = absurd q
le_neg (fin false m e) (inf false) p q h = tt
le_neg (fin false m e) (fin true n d) p q h = absurd q
le_neg (fin false m e) (fin false n d) p q h = turned (m * up e * down d) (n * up d * down e) h
  where
    turned : (a b : ℕ) → T (ltb a b || (eqb a b && true)) → T (ltb a b || (eqb b a && true))
    turned a b t = ⊎_elim (λ e. rw (eq-eqb b a (sym e)) (or-true (ltb a b))) (λ l. rw (lt-ltb a b l) tt) (eq-or-lt_of_le (test→le a b t))

pub le_across : (x y : Float) → T (unsigned x) → T (unsigned y) → T (le (neg x) y)
unfolding neg le
le_across nan y p q = absurd p
le_across (inf true) y p q = absurd p
le_across (inf false) nan p q = absurd q
le_across (inf false) (inf true) p q = absurd q
le_across (inf false) (inf false) p q = tt
le_across (inf false) (fin t n d) p q = tt
le_across (fin true m e) y p q = absurd p
le_across (fin false m e) nan p q = absurd q
le_across (fin false m e) (inf true) p q = absurd q
le_across (fin false m e) (inf false) p q = tt
le_across (fin false m e) (fin true n d) p q = absurd q
le_across (fin false m e) (fin false n d) p q = across (m * up e * down d) (n * up d * down e)
  where
    across : (a b : ℕ) → T (ltb 0 (a + b) || (eqb a b && (false || eqb a 0)))
    across zero zero = tt
    across zero (suc b) = rw (lt-ltb 0 (0 + suc b) (omega arith)) tt
    across (suc a) b = rw (lt-ltb 0 (suc a + b) (omega arith)) tt
