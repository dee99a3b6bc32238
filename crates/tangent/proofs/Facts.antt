-- What document 01 asks of Tanh ('Tanh and exp'), each a theorem about every float of the format. Assumes nothing.
use mathlib.Core.Path.{◌≡◌, refl, sym, ◌∙◌, ap, subst}
use mathlib.Core.Logic.{⊎_elim}
use mathlib.Core.Bool.{true, false, not}
use Prim.Native.Nat.{ℕ, ◌+◌, ◌%◌, ◌^◌, ◌≤◌}
use native.Mathlib.Omega.{arith}
use lib.Dec.{T}
use lib.IntN.{pos, negsuc}
use lib.Ieee.{Float, nan, inf, fin, binary32, to_bits, of_bits, of_int, fits, le, neg, is_nan}
use lib.Ieee.Fits.{neg-fits}
use lib.Ieee.Bits.{of_bits-fits, to_bits-of_bits, to_bits-lt}
use Rattle.single.proofs.Order.{unsigned, le→bits, bits→le, bits_le, neg_neg, neg_bits, signed_bits, neg_le, unsigned_of_le, signed_of_le}
use Rattle.single.proofs.Sign.{with_sign, sign_of, magnitude_le, pattern_number, pattern_unsigned, le_neg, le_across, le_number}
use Rattle.tangent.specs.Tanh.{low, high, one, tanh_bits, Tanh}
use Rattle.tangent.proofs.Guards.{small_is, at_high, size-le, sign_stays}

-- ---- NaN gives NaN
pub nan_at_nan : Tanh nan ≡ nan
unfolding Tanh to_bits of_bits
nan_at_nan = refl

-- ---- the nearest floats to tanh 1 and tanh -0.5, as samples
pub tanh_of_one : tanh_bits 0x3f80_0000 ≡ 0x3f42_f7d6
unfolding tanh_bits
tanh_of_one = refl

pub tanh_of_minus_half : tanh_bits 0xbf00_0000 ≡ 0xbeec_9a9f
unfolding tanh_bits
tanh_of_minus_half = refl

-- ---- Tanh is odd
odd_plain : (x : Float) → T (unsigned x) → T (fits binary32 x) → Tanh (neg x) ≡ neg (Tanh x)
unfolding Tanh
odd_plain x u i =
    let a = to_bits binary32 x in
    let n = bits_le binary32 x u i in
    let l = size-le a n in
    let same : (2 ^ 31 + a) % 2 ^ 31 ≡ a = omega arith in
    let e : tanh_bits (2 ^ 31 + a) ≡ 2 ^ 31 + tanh_bits a = omega (arith, sign_stays (2 ^ 31 + a) (omega arith), ap tanh_bits same) in
    ap (λ (b : ℕ). of_bits binary32 (tanh_bits b)) (neg_bits binary32 x u) ∙ ap (of_bits binary32) e ∙ with_sign binary32 (tanh_bits a) (omega arith)

-- a float with a sign: Tanh of its negative, with the sign
turned : (x : Float) → T (unsigned (neg x)) → T (fits binary32 x) → Tanh x ≡ neg (Tanh (neg x))
turned x u i = ap Tanh (sym (neg_neg x)) ∙ odd_plain (neg x) u (neg-fits binary32 x i)

odd_signed : (x : Float) → T (unsigned (neg x)) → T (fits binary32 x) → Tanh (neg x) ≡ neg (Tanh x)
odd_signed x u i = sym (ap neg (turned x u i) ∙ neg_neg (Tanh (neg x)))

pub odd : (x : Float) → T (fits binary32 x) → Tanh (neg x) ≡ neg (Tanh x)
unfolding neg
odd nan i = nan_at_nan ∙ ap neg (sym nan_at_nan)
odd (inf true) i = odd_signed (inf true) tt i
odd (inf false) i = odd_plain (inf false) tt i
odd (fin true m e) i = odd_signed (fin true m e) tt i
odd (fin false m e) i = odd_plain (fin false m e) tt i

-- ---- Tanh is within -1..1: so is its pattern without the sign
pub pattern-at-most_one : (x : Float) → T (fits binary32 x) → T (not (is_nan x)) → to_bits binary32 (Tanh x) % 2 ^ 31 ≤ 0x3f80_0000
unfolding Tanh
pattern-at-most_one x i n =
    let b = to_bits binary32 x in
    let m = magnitude_le binary32 x i n in
    let h = sign_stays b m in
    let l = size-le (b % 2 ^ 31) m in
    let word = to_bits-lt binary32 x i in
    rw (to_bits-of_bits binary32 (tanh_bits b) (omega arith) (pattern_number binary32 (tanh_bits b) (omega arith))) (omega arith)

-- and so is its value, in the order of floats
abbrev unit : Float
unit = fin false 1 (pos 0)

unit_is : of_int binary32 (pos 1) ≡ unit
unfolding of_int
unit_is = refl

minus_unit_is : of_int binary32 (negsuc 0) ≡ neg unit
unfolding of_int neg
minus_unit_is = refl

unit_bits : to_bits binary32 unit ≡ one
unfolding to_bits
unit_bits = refl

unit_of : of_bits binary32 one ≡ unit
unfolding of_bits
unit_of = refl

unit_fits : T (fits binary32 unit)
unfolding fits
unit_fits = tt

module _ (x : Float) (u : T (unsigned x)) (i : T (fits binary32 x)) where
  plain_unsigned : T (unsigned (Tanh x))
  unfolding Tanh
  plain_unsigned = let l = size-le (to_bits binary32 x) (bits_le binary32 x u i) in pattern_unsigned binary32 (tanh_bits (to_bits binary32 x)) (omega arith)

  plain_le : T (le (Tanh x) unit)
  unfolding Tanh
  plain_le =
      let b = tanh_bits (to_bits binary32 x) in
      let l = size-le (to_bits binary32 x) (bits_le binary32 x u i) in
      let e = to_bits-of_bits binary32 b (omega arith) (pattern_number binary32 b (omega arith)) in
      bits→le binary32 (Tanh x) unit plain_unsigned tt (of_bits-fits binary32 b) unit_fits (omega (arith, e, unit_bits))

pub within : (x : Float) → T (fits binary32 x) → T (not (is_nan x))
    → T (le (of_int binary32 (negsuc 0)) (Tanh x)) × T (le (Tanh x) (of_int binary32 (pos 1)))
within x i n =
    rw (unit_is, minus_unit_is)
    (⊎_elim (λ u. (le_across unit (Tanh x) tt (plain_unsigned x u i), plain_le x u i))
    (λ u.
    let y = neg x in
    let j = neg-fits binary32 x i in
    rw (turned x u i) (le_neg (Tanh y) unit (plain_unsigned y u j) tt (plain_le y u j), le_across (Tanh y) unit (plain_unsigned y u j) tt))
    (sign_of x n))

-- and NaN alone gives NaN
pub number_at_number : (x : Float) → T (fits binary32 x) → T (not (is_nan x)) → T (not (is_nan (Tanh x)))
number_at_number x i n = le_number (Tanh x) (of_int binary32 (pos 1)) (within x i n).1

-- ---- Tanh x is x where |x| is at most 2^-13
abbrev small : Float
small = fin false 1 (negsuc 12)

small_bits : to_bits binary32 small ≡ low
unfolding to_bits
small_bits = refl

pub itself_when_small : (x : Float) → T (fits binary32 x) → T (le (neg (fin false 1 (negsuc 12))) x) → T (le x (fin false 1 (negsuc 12))) → Tanh x ≡ x
itself_when_small x i lo hi =
    small_is x i
    (⊎_elim (λ u. let l = le→bits binary32 x small u tt i hi in omega (arith, small_bits))
    (λ u.
    let turned = neg_le small (neg x) tt u (subst (λ (z : Float). T (le (neg small) z)) (sym (neg_neg x)) lo) in
    let l = le→bits binary32 (neg x) small u tt (neg-fits binary32 x i) turned in
    omega (arith, small_bits, signed_bits binary32 x u))
    (sign_of x (le_number x small hi)))

-- ---- Tanh is 1 from 10 up, the infinity included, and -1 from -10 down
abbrev ten : Float
ten = fin false 5 (pos 1)

ten_is : of_int binary32 (pos 10) ≡ ten
unfolding of_int
ten_is = refl

minus_ten_is : of_int binary32 (negsuc 9) ≡ neg ten
unfolding of_int neg
minus_ten_is = refl

ten_bits : to_bits binary32 ten ≡ high
unfolding to_bits
ten_bits = refl

ten_fits : T (fits binary32 ten)
unfolding fits
ten_fits = tt

from_ten : (x : Float) → T (fits binary32 x) → T (le ten x) → Tanh x ≡ unit
unfolding Tanh
from_ten x i h =
    let a = to_bits binary32 x in
    let u = unsigned_of_le ten x tt h in
    let above = le→bits binary32 ten x tt u ten_fits h in
    let below = bits_le binary32 x u i in
    let e : tanh_bits a ≡ one = omega (arith, at_high a (omega arith) (omega (arith, ten_bits))) in
    ap (of_bits binary32) e ∙ unit_of

pub one_from_10 : (x : Float) → T (fits binary32 x) → T (le (of_int binary32 (pos 10)) x) → Tanh x ≡ of_int binary32 (pos 1)
one_from_10 x i h = from_ten x i (rw ten_is at h) ∙ sym unit_is

pub minus_one_to_minus_10 : (x : Float) → T (fits binary32 x) → T (le x (of_int binary32 (negsuc 9))) → Tanh x ≡ of_int binary32 (negsuc 0)
minus_one_to_minus_10 x i h =
    let l : T (le x (neg ten)) = rw minus_ten_is at h in
    let u = signed_of_le ten x tt l in
    let up = neg_le (neg x) ten u tt (subst (λ (z : Float). T (le z (neg ten))) (sym (neg_neg x)) l) in
    turned x u i ∙ ap neg (from_ten (neg x) (neg-fits binary32 x i) up) ∙ sym minus_unit_is
