-- What document 01 asks of E and its table ('Tanh and exp'), each a theorem about every float of the format. Assumes nothing.
use mathlib.Core.Path.{◌≡◌, refl, sym, ap, subst}
use mathlib.Core.Logic.{⊎_elim}
use mathlib.Core.Bool.{true, false, not}
use Prim.Native.Nat.{ℕ, ◌+◌, ◌-◌, ◌*◌, ◌%◌, ◌^◌, ◌≤◌, ◌<◌}
use native.Mathlib.Omega.{arith}
use lib.Dec.{T}
use lib.IntN.{pos, negsuc}
use lib.ListN.{length}
use lib.Ieee.{Float, nan, inf, fin, binary32, to_bits, of_bits, of_int, fits, le, lt, neg, is_nan}
use lib.Ieee.Fits.{neg-fits}
use lib.Ieee.Bits.{of_bits-fits}
use Rattle.lists.proofs.Nums.{le_or_lt}
use Rattle.single.proofs.Order.{le→bits, bits_le, neg_neg, signed_bits, neg_le, unsigned_of_le, signed_of_le, signless, pattern_signless, signless_lt, signless_zero, signless_bits}
use Rattle.single.proofs.Sign.{magnitude_le, pattern_number}
use Rattle.exponent.specs.Table.{table, entry}
use Rattle.exponent.specs.Exp.{between, exp_bits, E}
use Rattle.exponent.proofs.Rule.{rule_at}
use Rattle.exponent.proofs.Guards.{at_nan, at_high, at_low, at-positive, at_negative}

-- ---- the table: 256 entries, and the rule at each
pub table_long : length table ≡ 256
unfolding table
table_long = refl

pub table_rule : (j : ℕ) → j < 256 → ((2 * entry j - 1) ^ 256 < 2 ^ (7936 + j)) × (2 ^ (7936 + j) < (2 * entry j + 1) ^ 256)
table_rule = rule_at

-- ---- E(+0) = E(-0) = 1
pub one_at_zero : E (fin false 0 (pos 0)) ≡ of_int binary32 (pos 1)
unfolding E entry to_bits of_bits of_int
one_at_zero = refl

pub one_at_minus_zero : E (fin true 0 (pos 0)) ≡ of_int binary32 (pos 1)
unfolding E entry to_bits of_bits of_int
one_at_minus_zero = refl

-- and the nearest float to e at 1, as a sample
pub e_at_one : exp_bits 0x3f80_0000 ≡ 0x402d_f854
unfolding exp_bits entry
e_at_one = refl

-- ---- NaN gives NaN
pub nan_at_nan : E nan ≡ nan
unfolding E to_bits of_bits
nan_at_nan = refl

-- ---- E = +infinity from 89 up, the infinity included
high : Float
high = fin false 89 (pos 0)

high_is : of_int binary32 (pos 89) ≡ high
unfolding of_int high
high_is = refl

high_bits : to_bits binary32 high ≡ 0x42b2_0000
unfolding to_bits high
high_bits = refl

high_fits : T (fits binary32 high)
unfolding fits high
high_fits = tt

pub infinite_from_89 : (x : Float) → T (fits binary32 x) → T (le (of_int binary32 (pos 89)) x) → E x ≡ inf false
unfolding E of_bits high
infinite_from_89 x i h =
    let l : T (le high x) = rw high_is at h in
    let u = unsigned_of_le high x tt l in
    let above = le→bits binary32 high x tt u high_fits l in
    let below = bits_le binary32 x u i in
    ap (of_bits binary32) (at_high (to_bits binary32 x) (omega arith) (omega arith) (omega (arith, high_bits)))

-- ---- E = +0 from -104 down, the infinity included
low : Float
low = fin false 13 (pos 3)

low_is : of_int binary32 (negsuc 103) ≡ neg low
unfolding of_int neg low
low_is = refl

low_bits : to_bits binary32 low ≡ 0x42d0_0000
unfolding to_bits low
low_bits = refl

low_fits : T (fits binary32 low)
unfolding fits low
low_fits = tt

pub zero_to_minus_104 : (x : Float) → T (fits binary32 x) → T (le x (of_int binary32 (negsuc 103))) → E x ≡ fin false 0 (pos 0)
unfolding E of_bits low
zero_to_minus_104 x i h =
    let l : T (le x (neg low)) = rw low_is at h in
    let u = signed_of_le low x tt l in
    let turned = neg_le (neg x) low u tt (subst (λ (z : Float). T (le z (neg low))) (sym (neg_neg x)) l) in
    let above = le→bits binary32 low (neg x) tt u low_fits turned in
    let below = bits_le binary32 (neg x) u (neg-fits binary32 x i) in
    let is = signed_bits binary32 x u in
    ap (of_bits binary32) (at_low (to_bits binary32 x) (omega arith) (omega arith) (omega (arith, low_bits)))

-- ---- no E is negative: its pattern is below the sign's bit, it is not below +0, and it is not -0
between_le : (b : ℕ) → between b ≤ 0x7f80_0000
unfolding between
between_le b = omega arith

-- up to the infinity's pattern, but for a NaN
exp_le : (b : ℕ) → b % 2 ^ 31 ≤ 0x7f80_0000 → exp_bits b ≤ 0x7f80_0000
exp_le b n =
    ⊎_elim
    (λ (s : 2 ^ 31 ≤ b).
    ⊎_elim (λ l. omega (arith, at_low b n s l)) (λ l. omega (arith, at_negative b s l, between_le b)) (le_or_lt 0x42d0_0000 (b % 2 ^ 31)))
    (λ (s : b < 2 ^ 31).
    ⊎_elim (λ l. omega (arith, at_high b n s l)) (λ l. omega (arith, at-positive b s l, between_le b)) (le_or_lt 0x42b2_0000 (b % 2 ^ 31)))
    (le_or_lt (2 ^ 31) b)

exp_lt : (b : ℕ) → exp_bits b < 2 ^ 31
exp_lt b = ⊎_elim (λ n. omega (arith, exp_le b n)) (λ n. omega (arith, at_nan b n)) (le_or_lt (b % 2 ^ 31) 0x7f80_0000)

without_sign : (x : Float) → T (signless (E x))
unfolding E
without_sign x = pattern_signless binary32 (exp_bits (to_bits binary32 x)) (exp_lt (to_bits binary32 x))

E_fits : (x : Float) → T (fits binary32 (E x))
unfolding E
E_fits x = of_bits-fits binary32 (exp_bits (to_bits binary32 x))

pub sign_clear : (x : Float) → to_bits binary32 (E x) < 2 ^ 31
sign_clear x = signless_bits binary32 (E x) (without_sign x) (E_fits x)

pub not_below_zero : (x : Float) → lt (E x) (fin false 0 (pos 0)) ≡ false
not_below_zero x = signless_lt (E x) (without_sign x)

pub not_minus_zero : (x : Float) → E x ≡ fin true 0 (pos 0) → ⊥
not_minus_zero x = signless_zero (E x) (without_sign x)

-- ---- and NaN alone does
pub number_at_number : (x : Float) → T (fits binary32 x) → T (not (is_nan x)) → T (not (is_nan (E x)))
unfolding E
number_at_number x i n =
    let b = to_bits binary32 x in
    let h = exp_le b (magnitude_le binary32 x i n) in
    pattern_number binary32 (exp_bits b) (omega arith)
