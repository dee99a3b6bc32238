-- Signed whole numbers as the machine has them: small ones come back from their bits, sums and products of small ones are small, and the two parts
-- of one are a shift and a difference. Assumes nothing.
use mathlib.Core.Logic.{⊎_elim}
use mathlib.Core.Path.{◌≡◌, refl, sym, ◌∙◌, ap}
use mathlib.Core.Bool.{Bool, true, false, cond}
use Prim.Native.Nat.{ℕ, zero, suc, ◌+◌, ◌-◌, ◌*◌, ◌/◌, ◌%◌, ◌^◌, ◌≤◌, ◌<◌}
use native.Mathlib.Nat.{div-add-mod', mod-lt, mod-eq_of_lt, suc-mul, one-mul}
use native.Mathlib.Omega.{arith}
use borrow.Author.Tests.{le-ltb, lt-ltb}
use lib.Dec.{T, ltb}
use lib.Pow.{pow_pos, pow_mono}
use lib.IntN.{ℤ, pos, negsuc, neg_ℤ, nat_abs, sub_ℕ, ◌+ℤ◌, ◌-ℤ◌, ◌*ℤ◌, +ℤ_comm, -ℤ-+ℤ_cancel}
use lib.Signed.{mag, non_neg, shr_z, mag_shr}
use Rattle.std.specs.Int.{int_max}
use mir.Syntax.{w64}
use mir.Val.{SFits, to_z, of_z}
use mir.Facts.{to_z-of_z, sfits_lit}
use Rattle.lists.proofs.Nums.{le_or_lt}
use Rattle.exponent.specs.Exp.{positive}
use Rattle.exponent.specs.Split.{parts, Splits}

pub back : (z : ℤ) → mag z < 2 ^ 63 → to_z w64 (of_z w64 z) ≡ z
back z h = to_z-of_z {w = w64} (record { sfits = h })

-- a - b where b is no larger
sub_is : (a b : ℕ) → b ≤ a → sub_ℕ a b ≡ pos (a - b)
sub_is a b h = rw (le-ltb a b h)

minus_is : (a b : ℕ) → b ≤ a → pos a -ℤ pos b ≡ pos (a - b)
minus_is a zero h = ap pos (omega arith)
minus_is a (suc b) h = sub_is a (suc b) h

neg_neg : (a : ℕ) → neg_ℤ (neg_ℤ (pos a)) ≡ pos a
neg_neg zero = refl
neg_neg (suc a) = refl

-- ---- sizes
mag_sub : (a b : ℕ) → mag (sub_ℕ a b) ≤ a + b
mag_sub a b = go (ltb a b)
  where
    go : (t : Bool) → mag (cond t (negsuc (b - suc a)) (pos (a - b))) ≤ a + b
    go true = omega arith
    go false = omega arith

pub mag_add : (x y : ℤ) → mag (x +ℤ y) ≤ mag x + mag y + 1
mag_add (pos a) (pos b) = omega arith
mag_add (pos a) (negsuc b) = omega (arith, mag_sub a (suc b))
mag_add (negsuc a) (pos b) = omega (arith, mag_sub b (suc a))
mag_add (negsuc a) (negsuc b) = omega arith

pub mag_neg : (n : ℕ) → mag (neg_ℤ (pos n)) ≤ n
mag_neg zero = omega arith
mag_neg (suc n) = omega arith

pub mag_negℤ : (z : ℤ) → mag (neg_ℤ z) ≤ mag z + 1
mag_negℤ (pos n) = omega (arith, mag_neg n)
mag_negℤ (negsuc n) = omega arith

mag_product : (z : ℤ) (n : ℕ) → mag (shr_z z n *ℤ pos n) ≤ mag z + n
mag_product (pos a) n = omega (arith, div-add-mod' a n)
mag_product (negsuc a) n = omega (arith, div-add-mod' a n, suc-mul (a / n) n, mag_neg (suc (a / n) * n))

-- ---- the parts
-- the quotient by a shift
pub shifted : (z : ℤ) (n : ℕ) → shr_z z n ≡ (parts z n).quotient
unfolding parts
shifted (pos a) n = refl
shifted (negsuc a) n = refl

-- and the remainder by a difference
pub rest : (z : ℤ) (n : ℕ) → 0 < n → z -ℤ shr_z z n *ℤ pos n ≡ pos (parts z n).remainder
unfolding parts
rest (pos a) n h = minus_is a (a / n * n) (omega (arith, div-add-mod' a n)) ∙ ap pos (omega (arith, div-add-mod' a n))
rest (negsuc a) n h =
    let b = suc (a / n) * n in
    let e : b ≡ a / n * n + n = suc-mul (a / n) n in
    let l = mod-lt a h in
    ap (λ z. negsuc a +ℤ z) (neg_neg b) ∙ sub_is b (suc a) (omega (arith, div-add-mod' a n)) ∙ ap pos (omega (arith, div-add-mod' a n))

pub remainder_lt : (z : ℤ) (n : ℕ) → 0 < n → (parts z n).remainder < n
unfolding parts
remainder_lt (pos a) n h = mod-lt a h
remainder_lt (negsuc a) n h = omega arith

pub whole_is : (z : ℤ) (n : ℕ) → 0 < n → (parts z n).quotient *ℤ pos n +ℤ pos (parts z n).remainder ≡ z
whole_is z n h =
    let q = shr_z z n *ℤ pos n in
    ap (λ x. x *ℤ pos n +ℤ pos (parts z n).remainder) (sym (shifted z n))
    ∙ ap (λ x. q +ℤ x) (sym (rest z n h))
    ∙ +ℤ_comm q (z -ℤ q)
    ∙ -ℤ-+ℤ_cancel z q

pub mag_quotient : (z : ℤ) (n : ℕ) → mag (parts z n).quotient ≤ mag z
mag_quotient z n = rw (← shifted z n) (mag_shr z n)

-- ---- the code of `split`, by 2 ^ k
module _ (z : ℤ) (k : ℕ) (small : mag z < 2 ^ 40) (short : k < 32) where
  pub power_small : 2 ^ k ≤ 2 ^ 31
  power_small = pow_mono {i = k} {j = 31} (omega arith)

  pub by_is : 1 * 2 ^ k % 2 ^ 64 ≡ 2 ^ k
  by_is = mod-eq_of_lt (omega (arith, power_small)) ∙ one-mul (2 ^ k)

  pub z_back : to_z w64 (of_z w64 z) ≡ z
  z_back = back z (omega arith)

  pub by_back : to_z w64 (2 ^ k) ≡ pos (2 ^ k)
  by_back = back (pos (2 ^ k)) (omega (arith, power_small))

  pub quotient_back : to_z w64 (of_z w64 (shr_z z (2 ^ k))) ≡ shr_z z (2 ^ k)
  quotient_back = back (shr_z z (2 ^ k)) (omega (arith, mag_shr z (2 ^ k)))

  pub product_fits : SFits w64 (shr_z z (2 ^ k) *ℤ pos (2 ^ k))
  product_fits = record { sfits = omega (arith, mag_product z (2 ^ k), power_small) }

  pub product_back : to_z w64 (of_z w64 (shr_z z (2 ^ k) *ℤ pos (2 ^ k))) ≡ shr_z z (2 ^ k) *ℤ pos (2 ^ k)
  product_back = to_z-of_z product_fits

  pub rest_is : z -ℤ shr_z z (2 ^ k) *ℤ pos (2 ^ k) ≡ pos (parts z (2 ^ k)).remainder
  rest_is = rest z (2 ^ k) (pow_pos k)

  pub remainder_fits : SFits w64 (pos (parts z (2 ^ k)).remainder)
  remainder_fits = record { sfits = omega (arith, remainder_lt z (2 ^ k) (pow_pos k), power_small) }

  pub rest_back : to_z w64 (parts z (2 ^ k)).remainder ≡ pos (parts z (2 ^ k)).remainder
  rest_back = to_z-of_z remainder_fits

pub parts_split : (z : ℤ) (n : ℕ) → 0 < n → Splits z n (parts z n)
parts_split z n h = record { whole = whole_is z n h; below = remainder_lt z n h; is = refl }

-- ---- the code of `positive_of`
pub positive_is : (z : ℤ) → T (non_neg z) → nat_abs z ≡ positive z
unfolding positive
positive_is (pos n) h = refl
positive_is (negsuc n) h = absurd h

-- the larger of a number and 0
pub max_is : (z : ℤ) → int_max z (pos 0) ≡ pos (positive z)
unfolding positive
max_is (pos zero) = refl
max_is (pos (suc n)) = rw (lt-ltb 0 (suc n) (omega arith)) refl
max_is (negsuc n) = refl

-- ---- the code of `scaled_of`: the factor 1 - 2 s is 1 or -1
abbrev pub factor : ℕ → ℤ
factor s = to_z w64 (of_z w64 (pos 1 -ℤ to_z w64 (of_z w64 (pos 2 *ℤ to_z w64 s))))

unfoldable pub signed : Bool → ℕ → ℤ
signed t u = cond t (pos u) (neg_ℤ (pos u))

pub mag_signed : (t : Bool) (u : ℕ) → mag (signed t u) ≤ u
unfolding signed
mag_signed true u = omega arith
mag_signed false u = mag_neg u

plus : (s u : ℕ) → s ≡ 0 → u < 2 ^ 63 → factor s *ℤ to_z w64 u ≡ pos u
plus s u e h = rw (e, back (pos u) h) (ap pos (one-mul u))

less : (s u : ℕ) → s ≡ 1 → u < 2 ^ 63 → factor s *ℤ to_z w64 u ≡ neg_ℤ (pos u)
less s u e h = rw (e, back (pos u) h) (ap (λ (n : ℕ). neg_ℤ (pos n)) (one-mul u))

pub signed_is : (b u : ℕ) → b < 2 ^ 32 → u < 2 ^ 63 → factor (b / 2 ^ 31) *ℤ to_z w64 u ≡ signed (ltb b (2 ^ 31)) u
unfolding signed
signed_is b u word h =
    ⊎_elim (λ l. rw (le-ltb b (2 ^ 31) l) (less (b / 2 ^ 31) u (omega arith) h)) (λ l. rw (lt-ltb b (2 ^ 31) l) (plus (b / 2 ^ 31) u (omega arith) h)) (le_or_lt (2 ^ 31) b)

pub factor_fits : (s : ℕ) → s < 2 → SFits w64 (pos 1 -ℤ to_z w64 (of_z w64 (pos 2 *ℤ to_z w64 s)))
factor_fits zero h = sfits_lit tt
factor_fits (suc zero) h = sfits_lit tt
factor_fits (suc (suc s)) h = absurd (omega arith)
