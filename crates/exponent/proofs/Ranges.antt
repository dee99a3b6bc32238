-- How large each number of the definition can be. Assumes nothing.
use mathlib.Core.Path.{◌≡◌, refl, sym, ◌∙◌, ap}
use mathlib.Core.Logic.{inl, inr, ⊎_elim}
use Prim.Native.Nat.{ℕ, min, ◌+◌, ◌-◌, ◌*◌, ◌/◌, ◌%◌, ◌^◌, ◌≤◌, ◌<◌}
use native.Mathlib.Nat.{mul-le-mul, div-eq_of_lt, lt_of_lt_of_le}
use native.Mathlib.Omega.{arith}
use lib.Pow.{pow_mono, shr-shr, shr_le}
use lib.Dec.{ltb}
use lib.IntN.{ℤ}
use lib.Signed.{mag}
use mir.Syntax.{w64}
use mir.Val.{to_z, of_z}
use Rattle.lists.proofs.Nums.{le_or_lt}
use Rattle.exponent.specs.Table.{entry}
use Rattle.exponent.specs.Split.{parts}
use Rattle.exponent.specs.declared.Parts.{Parts}
use Rattle.exponent.specs.Exp.{magnitude, scaled, power, raised}
use Rattle.exponent.proofs.Rule.{digits_at}
use Rattle.exponent.proofs.Signed.{back, signed, mag_signed, mag_quotient}

-- ---- shifts
-- a longer shift leaves less
pub shift_le : (n j k : ℕ) → j ≤ k → n / 2 ^ k ≤ n / 2 ^ j
shift_le n j k h =
    let e : k ≡ j + (k - j) = omega arith in
    let s : n / 2 ^ j / 2 ^ (k - j) ≡ n / 2 ^ k = shr-shr n j (k - j) ∙ ap (λ (i : ℕ). n / 2 ^ i) (sym e) in
    omega (arith, s, shr_le (n / 2 ^ j) (k - j))

-- and a shift by 63 leaves nothing of a number below 2^63, as any longer one
pub shift_up_to : (n k : ℕ) → n < 2 ^ 63 → n / 2 ^ min k 63 ≡ n / 2 ^ k
shift_up_to n k h = elim (le_or_lt k 63) [
  | inl l ↦ (let e : min k 63 ≡ k = omega (arith, l) in ap (λ (i : ℕ). n / 2 ^ i) e)
  | inr l ↦ (let e : min k 63 ≡ 63 = omega (arith, l) in ap (λ (i : ℕ). n / 2 ^ i) e ∙ div-eq_of_lt h
      ∙ sym (div-eq_of_lt (lt_of_lt_of_le h (pow_mono {i = 63} {j = k} (omega (arith, l))))))
]

-- ---- |x| log2 e
-- below 2^6 = 64, where the exponent's field is 132 or less
magnitude-low : (b : ℕ) → b % 2 ^ 31 / 2 ^ 23 ≤ 132 → magnitude b < 93 * 2 ^ 32
unfolding magnitude
magnitude-low b h =
    let a = b % 2 ^ 31 in
    let n = (2 ^ 23 + a % 2 ^ 23) * 198282496599 in
    omega (arith, shift_le n 23 (155 - a / 2 ^ 23) (omega arith))

-- from 64 to 128
magnitude-high : (b : ℕ) → b % 2 ^ 31 / 2 ^ 23 ≡ 133 → magnitude b ≡ (2 ^ 23 + b % 2 ^ 31 % 2 ^ 23) * 198282496599 / 2 ^ 22
unfolding magnitude
magnitude-high b h = rw h

pub magnitude-between : (b : ℕ) → b % 2 ^ 31 < 0x42d0_0000 → magnitude b < 151 * 2 ^ 32
magnitude-between b h = ⊎_elim (λ l. omega (arith, magnitude-low b l)) (λ l. omega (arith, magnitude-high b (omega arith))) (le_or_lt (b % 2 ^ 31 / 2 ^ 23) 132)

pub magnitude_ordinary : (b : ℕ) → b % 2 ^ 31 < 0x42ae_0000 → magnitude b < 126 * 2 ^ 32
magnitude_ordinary b h = ⊎_elim (λ l. omega (arith, magnitude-low b l)) (λ l. omega (arith, magnitude-high b (omega arith))) (le_or_lt (b % 2 ^ 31 / 2 ^ 23) 132)

-- ---- the power
module _ (f : ℕ) (small : f < 2 ^ 24) where
  pub product_lt : f * (1488522236 + f * 2016986 / 2 ^ 24) < 2 ^ 55
  product_lt = omega (arith, mul-le-mul {n₁ = f} {m₁ = 1488522236 + f * 2016986 / 2 ^ 24} {n₂ = 16777215} {m₂ = 1490539221} (omega arith) (omega arith))

-- between 2^62 and a little above 2^63
pub power_ge : (j f : ℕ) → j < 256 → 2 ^ 62 ≤ power j f
unfolding power
power_ge j f h =
    let c = 1488522236 + f * 2016986 / 2 ^ 24 in
    let d = digits_at j h in
    omega (arith, mul-le-mul {n₁ = 2 ^ 30} {m₁ = 2 ^ 32} {n₂ = entry j} {m₂ = 2 ^ 32 + f * c / 2 ^ 31} (omega (arith, d)) (omega arith))

pub power_lt : (j f : ℕ) → j < 256 → f < 2 ^ 24 → power j f < 2 ^ 63 + 2 ^ 56
unfolding power
power_lt j f h l =
    let c = 1488522236 + f * 2016986 / 2 ^ 24 in
    let d = digits_at j h in
    omega (arith, mul-le-mul {n₁ = entry j} {m₁ = 2 ^ 32 + f * c / 2 ^ 31} {n₂ = 2 ^ 31} {m₂ = 2 ^ 32 + 2 ^ 24} (omega (arith, d)) (omega (arith, product_lt f l)))

-- ---- x log2 e, and its parts
pub scaled_is : (b : ℕ) → scaled b ≡ signed (ltb b (2 ^ 31)) (magnitude b)
unfolding scaled signed
scaled_is b = refl

pub mag_scaled : (b : ℕ) → mag (scaled b) ≤ magnitude b
mag_scaled b = rw (scaled_is b) (mag_signed (ltb b (2 ^ 31)) (magnitude b))

pub raised_is : (b : ℕ) (k j : Parts) (y : ℕ) → k ≡ parts (scaled b) (2 ^ 24) → j ≡ parts k.quotient 256 → y ≡ power j.remainder k.remainder
    → record { exponent = j.quotient; size = y } ≡ raised b
unfolding raised
raised_is b k j y e1 e2 e3 = rw (e3, e2, e1)

module _ (b : ℕ) (h : b % 2 ^ 31 < 0x42d0_0000) where
  pub scaled_small : mag (scaled b) < 2 ^ 40
  scaled_small = omega (arith, magnitude-between b h, mag_scaled b)

  pub scaled_back : (r : ℤ) → r ≡ scaled b → to_z w64 (of_z w64 r) ≡ scaled b
  scaled_back r e = rw e (back (scaled b) (omega (arith, scaled_small)))

  -- the whole part
  pub whole_small : (k : Parts) → k ≡ parts (scaled b) (2 ^ 24) → mag k.quotient < 2 ^ 40
  whole_small k e = rw e (omega (arith, mag_quotient (scaled b) (2 ^ 24), scaled_small))

  -- and the exponent
  pub exponent_small : (k j : Parts) → k ≡ parts (scaled b) (2 ^ 24) → j ≡ parts k.quotient 256 → mag j.quotient < 2 ^ 40
  exponent_small k j e1 e2 = rw e2 (omega (arith, mag_quotient k.quotient 256, whole_small k e1))
