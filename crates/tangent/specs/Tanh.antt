-- Tanh in whole numbers, from pattern to pattern. Document 01, 'Tanh and exp'. Every rounding is down: a quotient `/`, or `shr_z` of a signed number.
-- |x| from 2^-13 to 10 is cut into stretches of 2^21 patterns. On each, tanh is a quintic in the place d within the stretch, kept as a row of six
-- whole numbers. The result is the nearest float, in the binade of x (from 1 up: the one below 1) or in the binade below that.
use Rattle.std.specs.Prelude.{cond, ℕ, ◌+◌, ◌-◌, ◌*◌, ◌/◌, ◌%◌, ◌^◌, min, ℤ, pos, ◌+ℤ◌, ◌*ℤ◌, get_or, leb, ltb, Float}
use Rattle.std.specs.Int.Signed.{shr_z}
use Rattle.std.specs.Float.{binary32}
use Rattle.std.specs.Float.Ieee.{of_bits, to_bits}
use Rattle.exponent.specs.Exp.{positive}
use Rattle.tangent.specs.Rows.{rows}

-- 2^-13, 10, 1, infinity and the NaN, by their patterns
abbrev pub low : ℕ
low = 0x3900_0000

abbrev pub high : ℕ
high = 0x4120_0000

abbrev pub one : ℕ
one = 0x3f80_0000

abbrev pub infinity : ℕ
infinity = 0x7f80_0000

abbrev pub not_a_number : ℕ
not_a_number = 0x7fc0_0000

-- number k of row i
unfoldable pub number : ℕ → ℕ → ℤ
unfolding rows
number i k = get_or rows (6 * i + k) (pos 0)

-- a number c of a row, and d / 2^s of what the numbers behind it come to
unfoldable pub step : ℕ → ℕ → ℤ → ℤ → ℤ
step d s c v = c +ℤ shr_z (v *ℤ pos d) (2 ^ s)

-- numbers 1 to 5 of row i at d, in eighths
unfoldable pub slope_at : ℕ → ℕ → ℤ
unfolding number step
slope_at i d = step d 21 (number i 1) (step d 21 (number i 2) (step d 21 (number i 3) (step d 21 (number i 4) (number i 5))))

-- the quintic of row i at d: tanh in units of 2^-30 of the binade, 32 added. It is positive, and rounds to 1 at most (proofs/Range.antt)
unfoldable pub value_at : ℕ → ℕ → ℕ
unfolding slope_at positive
value_at i d = positive (step d 24 (number i 0) (slope_at i d))

-- |x| between 2^-13 and 10, by its pattern a. The floats of the binade are 2^7 units apart, those of the binade below 2^6; of the two patterns the
-- lower one is right
unfoldable pub between : ℕ → ℕ
unfolding value_at
between a =
    let y = value_at ((a - low) / 2 ^ 21) (a % 2 ^ 21) in
    (min (a / 2 ^ 23) 126 - 2) * 2 ^ 23 + min y ((y + (2 ^ 30 + 2 ^ 5)) / 2) / 2 ^ 6

-- the sign of x is kept
unfoldable pub tanh_bits : ℕ → ℕ
unfolding between
tanh_bits b =
    let a = b % 2 ^ 31 in
    let sign = b - a in
    cond (ltb infinity a) not_a_number (cond (leb a low) b (cond (leb high a) (sign + one) (sign + between a)))

unfoldable pub Tanh : Float → Float
unfolding tanh_bits
Tanh x = of_bits binary32 (tanh_bits (to_bits binary32 x))
