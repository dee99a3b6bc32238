-- The last step of E: from the exponent and the power to the pattern, in the ordinary range and at the edges. Assumes nothing.
use mathlib.Core.Path.{◌≡◌, refl, ◌∙◌, ap}
use mathlib.Core.Logic.{⊎_elim}
use Prim.Native.Nat.{ℕ, zero, suc, ◌+◌, ◌-◌, ◌*◌, ◌/◌, ◌%◌, ◌^◌, ◌≤◌, ◌<◌, min}
use native.Mathlib.Omega.{arith}
use borrow.Author.Tests.{le-ltb, lt-ltb}
use lib.Dec.{T}
use lib.IntN.{ℤ, pos, negsuc, neg_ℤ, nat_abs, sub_ℕ, ◌+ℤ◌, ◌-ℤ◌, +ℤ_idl}
use lib.Signed.{mag, non_neg}
use mir.Syntax.{w64}
use mir.Val.{SFits, to_z, of_z}
use mir.Facts.{to_z-of_z}
use Rattle.lists.proofs.Nums.{le_or_lt}
use Rattle.exponent.specs.Split.{parts}
use Rattle.exponent.specs.Exp.{nearest, positive, scaled, raised, between, exp_bits}
use Rattle.exponent.specs.declared.Power.{Power}
use Rattle.exponent.proofs.Signed.{back, mag_add, mag_negℤ, positive_is, remainder_lt}
use Rattle.exponent.proofs.Ranges.{shift_le, magnitude-between, magnitude_ordinary, mag_scaled, power_lt}
use Rattle.exponent.proofs.Guards.{at-positive, at_negative}

-- ---- the exponent and the power of a pattern
mag_parts : (z : ℤ) (n : ℕ) → mag (parts z n).quotient ≡ mag z / n
unfolding parts
mag_parts (pos a) n = refl
mag_parts (negsuc a) n = refl

mag_exponent : (b : ℕ) → mag (raised b).exponent ≡ mag (scaled b) / 2 ^ 24 / 256
unfolding raised
mag_exponent b = mag_parts (parts (scaled b) (2 ^ 24)).quotient 256 ∙ ap (λ (n : ℕ). n / 256) (mag_parts (scaled b) (2 ^ 24))

power_small : (b : ℕ) → (raised b).size < 2 ^ 63 + 2 ^ 56
unfolding raised
power_small b =
    let k = parts (scaled b) (2 ^ 24) in
    power_lt (parts k.quotient 256).remainder k.remainder (remainder_lt k.quotient 256 (omega arith)) (remainder_lt (scaled b) (2 ^ 24) (omega arith))

-- ---- the positive part of a difference, and of its opposite
positive-sub : (a b : ℕ) → positive (sub_ℕ a b) ≡ a - b
unfolding positive
positive-sub a b = ⊎_elim (λ l. rw (le-ltb a b l)) (λ l. rw (lt-ltb a b l) (omega arith)) (le_or_lt b a)

positive_neg : (n : ℕ) → positive (neg_ℤ (pos n)) ≡ 0
unfolding positive
positive_neg zero = refl
positive_neg (suc n) = refl

negative_sub : (a b : ℕ) → positive (neg_ℤ (sub_ℕ a b)) ≡ b - a
unfolding positive
negative_sub a b =
    ⊎_elim (λ l. rw (le-ltb a b l) (positive_neg (a - b) ∙ omega arith)) (λ l. rw (lt-ltb a b l) (omega arith)) (le_or_lt b a)

up_lt : (e : ℤ) (n : ℕ) → mag e < n → positive (e +ℤ pos 126) < n + 126
unfolding positive
up_lt (pos a) n h = omega arith
up_lt (negsuc a) n h = rw (positive-sub 126 (suc a)) (omega arith)

down_lt : (e : ℤ) → mag e < 151 → positive (neg_ℤ (e +ℤ pos 126)) < 26
down_lt (pos a) h = rw (positive_neg (a + 126)) (omega arith)
down_lt (negsuc a) h = rw (negative_sub 126 (suc a)) (omega arith)

-- from -126 up the sum with 126 is not negative, and its opposite has no positive part
sum_non_neg : (e : ℤ) → mag e < 126 → T (non_neg (e +ℤ pos 126))
sum_non_neg (pos a) h = tt
sum_non_neg (negsuc a) h = rw (le-ltb 126 (suc a) h) tt

no_down : (e : ℤ) → mag e < 126 → positive (neg_ℤ (e +ℤ pos 126)) ≡ 0
no_down (pos a) h = positive_neg (a + 126)
no_down (negsuc a) h = negative_sub 126 (suc a) ∙ omega arith

nearest_le : (y s : ℕ) → y < 2 ^ 63 + 2 ^ 56 → 39 ≤ s → nearest y s ≤ 2 ^ 24 + 2 ^ 18
unfolding nearest
nearest_le y s h l = omega (arith, shift_le y 38 (s - 1) (omega arith))

-- ---- what the code has of a pattern: p, the exponent and the power
module _ (b : ℕ) {p : Power} (is : p ≡ raised b) where
  size_of_p : p.size < 2 ^ 63 + 2 ^ 56
  size_of_p = rw is (power_small b)

  -- between the guards
  module _ (h : b % 2 ^ 31 < 0x42d0_0000) where
    mag_e : mag p.exponent < 151
    mag_e = rw is (omega (arith, mag_exponent b, mag_scaled b, magnitude-between b h))

    pub e_back : to_z w64 (of_z w64 p.exponent) ≡ p.exponent
    e_back = back p.exponent (omega (arith, mag_e))

    pub q_fits : SFits w64 (p.exponent +ℤ pos 126)
    q_fits = record { sfits = omega (arith, mag_e, mag_add p.exponent (pos 126)) }

    pub q_back : to_z w64 (of_z w64 (p.exponent +ℤ pos 126)) ≡ p.exponent +ℤ pos 126
    q_back = to_z-of_z q_fits

    pub minus_fits : SFits w64 (pos 0 -ℤ (p.exponent +ℤ pos 126))
    minus_fits = rw (+ℤ_idl (neg_ℤ (p.exponent +ℤ pos 126))) (record { sfits = omega (arith, mag_e, mag_add p.exponent (pos 126), mag_negℤ (p.exponent +ℤ pos 126)) })

    pub minus_back : to_z w64 (of_z w64 (pos 0 -ℤ (p.exponent +ℤ pos 126))) ≡ neg_ℤ (p.exponent +ℤ pos 126)
    minus_back = to_z-of_z minus_fits ∙ +ℤ_idl (neg_ℤ (p.exponent +ℤ pos 126))

    pub up_small : positive (p.exponent +ℤ pos 126) < 512
    up_small = omega (arith, up_lt p.exponent 151 mag_e)

    pub down_small : positive (neg_ℤ (p.exponent +ℤ pos 126)) < 26
    down_small = down_lt p.exponent mag_e

    pub between_is : between b ≡ min (positive (p.exponent +ℤ pos 126) * 2 ^ 23 + nearest p.size (39 + positive (neg_ℤ (p.exponent +ℤ pos 126)))) 0x7f80_0000
    unfolding between
    between_is = rw is

    -- from the code's numbers
    pub edge_is : (up down r : ℕ) → up ≡ positive (p.exponent +ℤ pos 126) → down ≡ positive (neg_ℤ (p.exponent +ℤ pos 126))
        → r ≡ up * 2 ^ 23 + nearest p.size (39 + down) → between b ≡ min r 0x7f80_0000
    edge_is up down r e1 e2 e3 = rw (e3, e1, e2) between_is

  -- in the ordinary range
  module _ (h : b % 2 ^ 31 < 0x42ae_0000) where
    mag_o : mag p.exponent < 126
    mag_o = rw is (omega (arith, mag_exponent b, mag_scaled b, magnitude_ordinary b h))

    pub q_non_neg : T (non_neg (p.exponent +ℤ pos 126))
    q_non_neg = sum_non_neg p.exponent mag_o

    pub q_lt : nat_abs (p.exponent +ℤ pos 126) < 252
    q_lt = rw (positive_is (p.exponent +ℤ pos 126) q_non_neg) (up_lt p.exponent 126 mag_o)

    pub r_lt : nat_abs (p.exponent +ℤ pos 126) * 2 ^ 23 + nearest p.size 39 < 0x7f80_0000
    r_lt = omega (arith, q_lt, nearest_le p.size 39 size_of_p (omega arith))

    pub exp_is : exp_bits b ≡ nat_abs (p.exponent +ℤ pos 126) * 2 ^ 23 + nearest p.size 39
    exp_is =
        ⊎_elim (λ l. at_negative b l (omega arith)) (λ l. at-positive b l (omega arith)) (le_or_lt (2 ^ 31) b)
        ∙ between_is (omega arith)
        ∙ rw (no_down p.exponent mag_o, ← positive_is (p.exponent +ℤ pos 126) q_non_neg) (omega (arith, r_lt))
