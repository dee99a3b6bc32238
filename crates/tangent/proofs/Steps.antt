-- One step of the quintic on the machine: no product or sum leaves 64 bits. Assumes nothing.
use mathlib.Core.Path.{◌≡◌, ◌∙◌}
use Prim.Native.Nat.{ℕ, zero, suc, ◌+◌, ◌*◌, ◌^◌, ◌≤◌, ◌<◌, zero-le}
use native.Mathlib.Nat.{mul-le-mul, mul-le-mul_left, div-lt_iff_lt-mul, le_of_suc-le-suc, lt_of_lt_of_le, le_trans, le_refl, zero-div}
use native.Mathlib.Omega.{arith}
use lib.Dec.{T, ltb, ltb→lt}
use lib.Pow.{pow_mono, pow_pos}
use lib.IntN.{ℤ, pos, negsuc, neg_ℤ, ◌+ℤ◌, ◌*ℤ◌}
use lib.ListN.{get_or}
use lib.Signed.{mag, shr_z}
use mir.Syntax.{w64}
use mir.Val.{SFits, to_z, of_z}
use mir.Facts.{to_z-of_z}
use Rattle.exponent.proofs.Signed.{back, mag_add, mag_neg}
use Rattle.lists.proofs.Every.{every, at_every}
use Rattle.tangent.specs.Rows.{rows}
use Rattle.tangent.specs.Tanh.{number, step}

-- the numbers of the rows have 31 digits
all_short : T (every 390 (λ j. ltb (mag (get_or rows j (pos 0))) (2 ^ 31)))
unfolding rows
all_short = tt

pub number_small : (i k : ℕ) → i < 65 → k < 6 → mag (number i k) < 2 ^ 31
unfolding number
number_small i k row place = ltb→lt _ _ (at_every (λ j. ltb (mag (get_or rows j (pos 0))) (2 ^ 31)) 390 all_short (6 * i + k) (omega arith))

-- a product by d
mag_product : (z : ℤ) (d : ℕ) → mag (z *ℤ pos d) ≤ (mag z + 1) * d
mag_product (pos a) d = omega arith
mag_product (negsuc a) d = omega (arith, mag_neg (suc a * d))

-- and by d / n, where that is at most 1
mag_part : (z : ℤ) (d n : ℕ) → d ≤ n → 0 < n → mag (shr_z (z *ℤ pos d) n) ≤ mag z
mag_part (pos a) d n h p = le_of_suc-le-suc ((div-lt_iff_lt-mul p).1 (omega (arith, mul-le-mul_left a h)))
mag_part (negsuc a) d n h p = part (suc a * d) (mul-le-mul_left (suc a) h)
  where
    part : (m : ℕ) → m ≤ suc a * n → mag (shr_z (neg_ℤ (pos m)) n) ≤ a
    part zero l = rw (zero-div n) zero-le
    part (suc m) l = le_of_suc-le-suc ((div-lt_iff_lt-mul p).1 l)

-- what a step asks of its numbers
pub record Small (d s : ℕ) (c v : ℤ) : Type 0 where
  pub short : d < 2 ^ 21
  pub far : 21 ≤ s
  pub entry : mag c < 2 ^ 31
  pub small : mag v < 2 ^ 34

module _ {d s : ℕ} {c v : ℤ} (h : Small d s c v) where
  c_back : to_z w64 (of_z w64 c) ≡ c
  c_back = back c (omega (arith, h.entry))

  pub d_back : to_z w64 d ≡ pos d
  d_back = back (pos d) (omega (arith, h.short))

  pub v_back : to_z w64 (of_z w64 v) ≡ v
  v_back = back v (omega (arith, h.small))

  pub product_fits : SFits w64 (v *ℤ pos d)
  product_fits =
      record {
        sfits =
            omega
            (arith, mag_product v d, mul-le-mul {n₁ = mag v + 1} {m₁ = d} {n₂ = 2 ^ 34} {m₂ = 2 ^ 21} (omega (arith, h.small)) (omega (arith, h.short)));
      }

  part_small : mag (shr_z (v *ℤ pos d) (2 ^ s)) ≤ mag v
  part_small = mag_part v d (2 ^ s) (omega (arith, h.short, pow_mono {i = 21} {j = s} h.far)) (pow_pos s)

  part_back : to_z w64 (of_z w64 (shr_z (v *ℤ pos d) (2 ^ s))) ≡ shr_z (v *ℤ pos d) (2 ^ s)
  part_back = back (shr_z (v *ℤ pos d) (2 ^ s)) (omega (arith, part_small, h.small))

  pub step_le : mag (step d s c v) ≤ mag v + 2 ^ 31
  unfolding step
  step_le = omega (arith, mag_add c (shr_z (v *ℤ pos d) (2 ^ s)), part_small, h.entry)

  pub step_fits : SFits w64 (step d s c v)
  step_fits = record { sfits = omega (arith, step_le, h.small) }

  -- the step as the machine does it
  pub machine_is :
      to_z w64 (of_z w64 c) +ℤ to_z w64 (of_z w64 (shr_z (to_z w64 (of_z w64 (to_z w64 (of_z w64 v) *ℤ to_z w64 d))) (2 ^ s))) ≡ step d s c v
  unfolding step
  machine_is = rw (v_back, d_back, to_z-of_z product_fits, part_back, c_back)

-- ---- what a caller has of a number: which one it is, and how small
pub record Is (r z : ℤ) (n : ℕ) : Type 0 where
  pub is : r ≡ z
  pub small : mag r < n

pub made : {r z : ℤ} {n : ℕ} → (r ≡ z) × (mag r < n) → Is r z n
made h = record { is = h.0; small = h.1 }

-- passed on, it comes back from its bits
pub passed : {r z : ℤ} {n : ℕ} → Is r z n → n ≤ 2 ^ 63 → to_z w64 (of_z w64 r) ≡ r
passed {r} h l = back r (lt_of_lt_of_le h.small l)

pub passed_small : {r z : ℤ} {n m : ℕ} → Is r z n → n ≤ m → m ≤ 2 ^ 63 → mag (to_z w64 (of_z w64 r)) < m
passed_small h l k = rw (passed h (le_trans l k)) (lt_of_lt_of_le h.small l)

-- one step on
pub next : (d s : ℕ) {c k v z r : ℤ} {n : ℕ} → Is c k (2 ^ 31) → Is v z n → n ≤ 2 ^ 63
    → (r ≡ step d s (to_z w64 (of_z w64 c)) (to_z w64 (of_z w64 v))) × (mag r ≤ mag (to_z w64 (of_z w64 v)) + 2 ^ 31)
    → Is r (step d s k z) (n + 2 ^ 31)
next d s a b l e =
    record { is = e.0 ∙ rw (passed a (omega arith), passed b l, a.is, b.is); small = omega (arith, e.1, passed_small b (le_refl _) l) }
