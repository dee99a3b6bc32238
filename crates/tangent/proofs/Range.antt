-- The quintic is positive and comes to no more than 1, in every row and at every place. Each row is cut into pieces; on a piece, a step at one of the
-- two ends bounds a step at any place between, and antt computes the bounds of all pieces. Assumes nothing.
use mathlib.Core.Path.{◌≡◌, refl}
use mathlib.Core.Logic.{⊎_elim}
use mathlib.Core.Bool.{Bool, ◌&&◌}
use Prim.Native.Nat.{ℕ, zero, suc, ◌+◌, ◌*◌, ◌/◌, ◌^◌, ◌≤◌, ◌<◌}
use native.Mathlib.Nat.{mul-le-mul_left, mul-le-mul_right}
use native.Mathlib.Omega.{arith}
use borrow.Author.Tests.{le-ltb, lt-ltb}
use lib.Dec.{T, leb, leb→le}
use lib.Pow.{shr_mono}
use lib.IntN.{ℤ, pos, negsuc, neg_ℤ, nat_abs, sub_ℕ, ◌+ℤ◌, ◌*ℤ◌}
use lib.Signed.{shr_z, non_neg}
use lib.Ieee.Fits.{and_l, and_r}
use Rattle.lists.proofs.Every.{every, at_every}
use Rattle.lists.proofs.Nums.{le_or_lt}
use Rattle.exponent.specs.Exp.{positive}
use Rattle.exponent.proofs.Signed.{positive_is}
use Rattle.tangent.specs.Tanh.{number, step, slope_at, value_at}

-- ---- the order of signed numbers: z is over z - under z
abbrev over : ℤ → ℕ
over (pos n) = n
over (negsuc n) = 0

abbrev under : ℤ → ℕ
under (pos n) = 0
under (negsuc n) = suc n

record Le (a b : ℤ) : Type 0 where
  pub le : over a + under b ≤ over b + under a

itself : (z : ℤ) → Le z z
itself z = record { le = omega arith }

sub_is : (a b : ℕ) → over (sub_ℕ a b) + b ≡ under (sub_ℕ a b) + a
sub_is a b = ⊎_elim (λ l. rw (le-ltb a b l) (omega arith)) (λ l. rw (lt-ltb a b l) (omega arith)) (le_or_lt b a)

sum_is : (x y : ℤ) → over (x +ℤ y) + (under x + under y) ≡ under (x +ℤ y) + (over x + over y)
sum_is (pos a) (pos b) = omega arith
sum_is (pos a) (negsuc b) = omega (arith, sub_is a (suc b))
sum_is (negsuc a) (pos b) = omega (arith, sub_is b (suc a))
sum_is (negsuc a) (negsuc b) = omega arith

add_le : (c : ℤ) {a b : ℤ} → Le a b → Le (c +ℤ a) (c +ℤ b)
add_le c {a} {b} h = record { le = omega (arith, h.le, sum_is c a, sum_is c b) }

shr_le : (s : ℕ) {a b : ℤ} → Le a b → Le (shr_z a (2 ^ s)) (shr_z b (2 ^ s))
shr_le s {a = pos a} {b = pos b} h = record { le = omega (arith, shr_mono {a = a} {b = b} s (omega (arith, h.le))) }
shr_le s {a = pos a} {b = negsuc b} h = absurd (omega (arith, h.le))
shr_le s {a = negsuc a} {b = pos b} h = record { le = omega arith }
shr_le s {a = negsuc a} {b = negsuc b} h = record { le = omega (arith, shr_mono {a = b} {b = a} s (omega (arith, h.le))) }

over_neg : (m : ℕ) → over (neg_ℤ (pos m)) ≡ 0
over_neg zero = refl
over_neg (suc m) = refl

under_neg : (m : ℕ) → under (neg_ℤ (pos m)) ≡ m
under_neg zero = refl
under_neg (suc m) = refl

over_times : (z : ℤ) (d : ℕ) → over (z *ℤ pos d) ≡ over z * d
over_times (pos a) d = refl
over_times (negsuc a) d = omega (arith, over_neg (suc a * d))

under_times : (z : ℤ) (d : ℕ) → under (z *ℤ pos d) ≡ under z * d
under_times (pos a) d = omega arith
under_times (negsuc a) d = under_neg (suc a * d)

-- ---- the two ends of a piece from p to q: where v is largest, and with p and q changed over where it is smallest
abbrev end : ℕ → ℕ → ℤ → ℕ
end p q (pos n) = q
end p q (negsuc n) = p

module _ (p q d : ℕ) (lo : p ≤ d) (hi : d ≤ q) where
  to_end : (v w : ℤ) → Le v w → Le (v *ℤ pos d) (w *ℤ pos (end p q w))
  to_end v (pos b) h =
      record { le = omega (arith, over_times v d, under_times v d, mul-le-mul_right d h.le, mul-le-mul_left b hi) }
  to_end v (negsuc b) h =
      record {
        le = omega (arith, over_times v d, under_times v d, over_neg (suc b * p), under_neg (suc b * p), mul-le-mul_right d h.le, mul-le-mul_left (suc b) lo);
      }

  from_end : (v w : ℤ) → Le v w → Le (v *ℤ pos (end q p v)) (w *ℤ pos d)
  from_end (pos a) w h =
      record { le = omega (arith, over_times w d, under_times w d, mul-le-mul_right d h.le, mul-le-mul_left a lo) }
  from_end (negsuc a) w h =
      record {
        le = omega (arith, over_times w d, under_times w d, over_neg (suc a * q), under_neg (suc a * q), mul-le-mul_right d h.le, mul-le-mul_left (suc a) hi);
      }

-- ---- the quintic, with the place of each step chosen by its value
unfoldable quintic : (ℤ → ℕ) → ℕ → ℤ
unfolding step
quintic at i =
    let v5 = number i 5 in
    let v4 = step (at v5) 21 (number i 4) v5 in
    let v3 = step (at v4) 21 (number i 3) v4 in
    let v2 = step (at v3) 21 (number i 2) v3 in
    let v1 = step (at v2) 21 (number i 1) v2 in
    step (at v1) 24 (number i 0) v1

module _ (f g : ℤ → ℕ) (rises : (v w : ℤ) → Le v w → Le (v *ℤ pos (f v)) (w *ℤ pos (g w))) where
  step_rises : (s : ℕ) (c : ℤ) {v w : ℤ} → Le v w → Le (step (f v) s c v) (step (g w) s c w)
  unfolding step
  step_rises s c {v} {w} h = add_le c (shr_le s (rises v w h))

  quintic_rises : (i : ℕ) → Le (quintic f i) (quintic g i)
  unfolding quintic
  quintic_rises i =
      step_rises 24 (number i 0) (step_rises 21 (number i 1) (step_rises 21 (number i 2) (step_rises 21 (number i 3) (step_rises 21 (number i 4) (itself (number i 5))))))

-- ---- the bounds of piece j of row i, of 64
abbrev least : ℕ → ℕ → ℤ
least i j = quintic (end (j * 2 ^ 15 + 2 ^ 15) (j * 2 ^ 15)) i

abbrev most : ℕ → ℕ → ℤ
most i j = quintic (end (j * 2 ^ 15) (j * 2 ^ 15 + 2 ^ 15)) i

fine : ℕ → ℕ → Bool
fine i j = non_neg (least i j) && leb (over (most i j)) (2 ^ 31 + 95)

all_fine : T (every 65 (λ i. every 64 (fine i)))
unfolding fine quintic number
all_fine = tt

not_negative : {a b : ℤ} → T (non_neg a) → Le a b → T (non_neg b)
not_negative {a = pos a} {b = pos b} t h = tt
not_negative {a = pos a} {b = negsuc b} t h = absurd (omega (arith, h.le))
not_negative {a = negsuc a} t h = absurd t

bounded : {b c : ℤ} {n : ℕ} → T (non_neg b) → Le b c → over c ≤ n → positive b ≤ n
unfolding positive
bounded {b = pos b} t h l = omega (arith, h.le)
bounded {b = negsuc b} t h l = absurd t

module _ (i d : ℕ) (row : i < 65) (place : d < 2 ^ 21) where
  abbrev j : ℕ
  j = d / 2 ^ 15

  piece : T (fine i j)
  piece = at_every (fine i) 64 (at_every (λ k. every 64 (fine k)) 65 all_fine i row) j (omega arith)

  -- the value is positive
  pub value_positive : T (non_neg (step d 24 (number i 0) (slope_at i d)))
  unfolding quintic fine slope_at
  value_positive =
      not_negative (and_l (non_neg (least i j)) (leb (over (most i j)) (2 ^ 31 + 95)) piece)
      (quintic_rises _ (λ _. d) (from_end (j * 2 ^ 15) (j * 2 ^ 15 + 2 ^ 15) d (omega arith) (omega arith)) i)

  -- and below what rounds to a float above 1
  pub value_le : value_at i d ≤ 2 ^ 31 + 95
  unfolding quintic fine value_at
  value_le =
      bounded value_positive (quintic_rises (λ _. d) _ (to_end (j * 2 ^ 15) (j * 2 ^ 15 + 2 ^ 15) d (omega arith) (omega arith)) i)
      (leb→le _ _ (and_r (non_neg (least i j)) (leb (over (most i j)) (2 ^ 31 + 95)) piece))

  pub value_is : nat_abs (step d 24 (number i 0) (slope_at i d)) ≡ value_at i d
  unfolding value_at
  value_is = positive_is (step d 24 (number i 0) (slope_at i d)) value_positive
