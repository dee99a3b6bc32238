-- Which rule of E applies to a pattern: the tests of the definition, one law for each way through them. Assumes nothing.
use mathlib.Core.Path.{◌≡◌}
use Prim.Native.Nat.{ℕ, ◌%◌, ◌^◌, ◌≤◌, ◌<◌}
use native.Mathlib.Omega.{arith}
use borrow.Author.Tests.{lt-ltb, le-ltb, le-leb, lt-leb}
use Rattle.exponent.specs.Exp.{between, exp_bits}

pub at_nan : (b : ℕ) → 0x7f80_0000 < b % 2 ^ 31 → exp_bits b ≡ 0x7fc0_0000
unfolding exp_bits
at_nan b n = rw (lt-ltb 0x7f80_0000 (b % 2 ^ 31) n)

pub at_high : (b : ℕ) → b % 2 ^ 31 ≤ 0x7f80_0000 → b < 2 ^ 31 → 0x42b2_0000 ≤ b % 2 ^ 31 → exp_bits b ≡ 0x7f80_0000
unfolding exp_bits
at_high b n s h = rw (le-ltb 0x7f80_0000 (b % 2 ^ 31) n, lt-ltb b (2 ^ 31) s, le-leb 0x42b2_0000 (b % 2 ^ 31) h)

pub at_low : (b : ℕ) → b % 2 ^ 31 ≤ 0x7f80_0000 → 2 ^ 31 ≤ b → 0x42d0_0000 ≤ b % 2 ^ 31 → exp_bits b ≡ 0
unfolding exp_bits
at_low b n s h = rw (le-ltb 0x7f80_0000 (b % 2 ^ 31) n, le-ltb b (2 ^ 31) s, le-leb (2 ^ 31) b s, le-leb 0x42d0_0000 (b % 2 ^ 31) h)

pub at-positive : (b : ℕ) → b < 2 ^ 31 → b % 2 ^ 31 < 0x42b2_0000 → exp_bits b ≡ between b
unfolding exp_bits
at-positive b s h =
    rw (le-ltb 0x7f80_0000 (b % 2 ^ 31) (omega arith), lt-ltb b (2 ^ 31) s, lt-leb (2 ^ 31) b s, lt-leb 0x42b2_0000 (b % 2 ^ 31) h)

pub at_negative : (b : ℕ) → 2 ^ 31 ≤ b → b % 2 ^ 31 < 0x42d0_0000 → exp_bits b ≡ between b
unfolding exp_bits
at_negative b s h =
    rw (le-ltb 0x7f80_0000 (b % 2 ^ 31) (omega arith), le-ltb b (2 ^ 31) s, le-leb (2 ^ 31) b s, lt-leb 0x42d0_0000 (b % 2 ^ 31) h)
