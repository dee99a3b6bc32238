-- Which rule of Tanh applies to a pattern, one law for each way through the tests, and what follows for the result's pattern.
-- Assumes nothing.
use mathlib.Core.Path.{◌≡◌, ◌∙◌, ap}
use mathlib.Core.Logic.{⊎_elim}
use Prim.Native.Nat.{ℕ, ◌+◌, ◌-◌, ◌*◌, ◌/◌, ◌%◌, ◌^◌, ◌≤◌, ◌<◌, min}
use native.Mathlib.Omega.{arith}
use borrow.Author.Tests.{lt-ltb, le-ltb, le-leb, lt-leb}
use lib.Dec.{T}
use lib.Ieee.{Float, binary32, to_bits, of_bits, fits}
use lib.Ieee.Bits.{of_bits-to_bits}
use Rattle.lists.proofs.Nums.{le_or_lt}
use Rattle.tangent.specs.Tanh.{low, high, one, infinity, not_a_number, value_at, between, tanh_bits, Tanh}
use Rattle.tangent.proofs.Range.{value_le}

pub at_nan : (b : ℕ) → infinity < b % 2 ^ 31 → tanh_bits b ≡ not_a_number
unfolding tanh_bits
at_nan b n = rw (lt-ltb infinity (b % 2 ^ 31) n)

pub at_small : (b : ℕ) → b % 2 ^ 31 ≤ low → tanh_bits b ≡ b
unfolding tanh_bits
at_small b h = rw (le-ltb infinity (b % 2 ^ 31) (omega arith), le-leb (b % 2 ^ 31) low h)

-- then Tanh is the identity
pub small_is : (x : Float) → T (fits binary32 x) → to_bits binary32 x % 2 ^ 31 ≤ low → Tanh x ≡ x
unfolding Tanh
small_is x i h = ap (of_bits binary32) (at_small (to_bits binary32 x) h) ∙ of_bits-to_bits binary32 x i

pub at_high : (b : ℕ) → b % 2 ^ 31 ≤ infinity → high ≤ b % 2 ^ 31 → tanh_bits b ≡ b - b % 2 ^ 31 + one
unfolding tanh_bits
at_high b n h = rw (le-ltb infinity (b % 2 ^ 31) n, lt-leb (b % 2 ^ 31) low (omega arith), le-leb high (b % 2 ^ 31) h)

pub at-between : (b : ℕ) → low < b % 2 ^ 31 → b % 2 ^ 31 < high → tanh_bits b ≡ b - b % 2 ^ 31 + between (b % 2 ^ 31)
unfolding tanh_bits
at-between b lo hi = rw (le-ltb infinity (b % 2 ^ 31) (omega arith), lt-leb (b % 2 ^ 31) low lo, lt-leb high (b % 2 ^ 31) hi)

-- the value at a pattern
module _ (a : ℕ) (lo : low < a) (hi : a < high) where
  pub y_le : value_at ((a - low) / 2 ^ 21) (a % 2 ^ 21) ≤ 2 ^ 31 + 95
  y_le = value_le ((a - low) / 2 ^ 21) (a % 2 ^ 21) (omega arith) (omega arith)

  pub between_le : between a ≤ one
  unfolding between
  between_le = omega (arith, y_le)

-- as the code has it: the field is that of the smaller of a and the last pattern below 1
pub between_is : (a y m w : ℕ) → y ≡ value_at ((a - low) / 2 ^ 21) (a % 2 ^ 21) → m ≡ min a 0x3f7f_ffff → w ≡ min y ((y + 0x4000_0020) / 2)
    → (m / 2 ^ 23 - 2) * 2 ^ 23 + w / 2 ^ 6 ≡ between a
unfolding between
between_is a y m w e f g = omega arith

-- ---- of any number: without the sign the result is at most the pattern of 1, and the sign stays
pub size-le : (a : ℕ) → a ≤ infinity → tanh_bits a ≤ one
size-le a n =
    ⊎_elim (λ s. omega (arith, at_small a (omega arith)))
    (λ s.
    ⊎_elim (λ l. omega (arith, at_high a (omega arith) (omega arith)))
    (λ l. omega (arith, at-between a (omega arith) (omega arith), between_le (a % 2 ^ 31) (omega arith) (omega arith)))
    (le_or_lt high a))
    (le_or_lt a low)

pub sign_stays : (b : ℕ) → b % 2 ^ 31 ≤ infinity → tanh_bits b ≡ b - b % 2 ^ 31 + tanh_bits (b % 2 ^ 31)
sign_stays b n =
    let a = b % 2 ^ 31 in
    ⊎_elim (λ s. omega (arith, at_small b s, at_small a (omega arith)))
    (λ s.
    ⊎_elim (λ l. omega (arith, at_high b n l, at_high a (omega arith) (omega arith)))
    (λ l.
    let same : a % 2 ^ 31 ≡ a = omega arith in
    omega (arith, at-between b s l, at-between a (omega arith) (omega arith), ap between same))
    (le_or_lt high a))
    (le_or_lt a low)
