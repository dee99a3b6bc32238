-- E, the exp of document 01 ('Tanh and exp'), in whole numbers, from pattern to pattern. Every rounding is one of two: a quotient `/`, which rounds
-- down, or `nearest`. A 1 / 2^k in a comment is the unit of the number that it speaks of.
use Rattle.std.specs.Prelude.{cond, ◌&&◌, ℕ, ◌+◌, ◌-◌, ◌*◌, ◌/◌, ◌%◌, ◌^◌, min, ltb, leb, ℤ, pos, negsuc, neg_ℤ, ◌+ℤ◌, Float}
use Rattle.std.specs.Float.{binary32}
use Rattle.std.specs.Float.Ieee.{of_bits, to_bits}
use Rattle.exponent.specs.Table.{entry}
use Rattle.exponent.specs.Split.{parts}
use Rattle.exponent.specs.declared.Power.{Power}

-- y / 2^s to the nearest whole number, half up; s is above 0
unfoldable pub nearest : ℕ → ℕ → ℕ
nearest y s = (y / 2 ^ (s - 1) + 1) / 2

-- z or 0, whichever is larger
unfoldable pub positive : ℤ → ℕ
positive (pos n) = n
positive (negsuc n) = 0

-- |x| log2 e in 1 / 2^32, rounded down, of the pattern b of x: e is its exponent's field, m its digits, and 198282496599 the nearest to 2^37 log2 e.
-- A zero or a subnormal has no leading digit as m has it, and gives 0 all the same.
unfoldable pub magnitude : ℕ → ℕ
magnitude b =
    let a = b % 2 ^ 31 in
    let e = a / 2 ^ 23 in
    let m = 2 ^ 23 + a % 2 ^ 23 in
    m * 198282496599 / 2 ^ (155 - e)

-- x log2 e in 1 / 2^32
unfoldable pub scaled : ℕ → ℤ
unfolding magnitude
scaled b = cond (ltb b (2 ^ 31)) (pos (magnitude b)) (neg_ℤ (pos (magnitude b)))

-- 2^(j / 256 + f / 2^32) in 1 / 2^62: entry j times 1 + w / 2^32, w from f by a quadratic that is exact at both ends
unfoldable pub power : ℕ → ℕ → ℕ
power j f =
    let c = 1488522236 + f * 2016986 / 2 ^ 24 in
    let w = f * c / 2 ^ 31 in
    entry j * (2 ^ 32 + w)

-- The pattern of 2^n Y / 2^62, rounded once: with the exponent's field n + 126 and the leading digit's 1 on top of it, or 0 and a longer shift where
-- n + 126 is negative. From 2^128 up it is the infinity's.
unfoldable pub pattern : ℤ → ℕ → ℕ
unfolding nearest positive
pattern n Y =
    let q = n +ℤ pos 126 in
    let r = positive q * 2 ^ 23 + nearest Y (39 + positive (neg_ℤ q)) in
    min r 0x7f80_0000

-- x log2 e split twice: by 2^24 into the whole part of x 256 log2 e and its fraction f, and that whole part by 256 into the exponent and the entry j
unfoldable pub raised : ℕ → Power
unfolding parts scaled power
raised b =
    let k = parts (scaled b) (2 ^ 24) in
    let j = parts k.quotient 256 in
    record { exponent = j.quotient; size = power j.remainder k.remainder }

-- E between the guards
unfoldable pub between : ℕ → ℕ
unfolding raised pattern
between b = pattern (raised b).exponent (raised b).size

-- a NaN gives a NaN, 89 (42b20000) and above the infinity, -104 (42d00000 and the sign) and below +0
unfoldable pub exp_bits : ℕ → ℕ
unfolding between
exp_bits b =
    let a = b % 2 ^ 31 in
    cond (ltb 0x7f80_0000 a) 0x7fc0_0000
    (cond (ltb b (2 ^ 31) && leb 0x42b2_0000 a) 0x7f80_0000
    (cond (leb (2 ^ 31) b && leb 0x42d0_0000 a) 0
    (between b)))

-- exp of a float
unfoldable pub E : Float → Float
unfolding exp_bits
E x = of_bits binary32 (exp_bits (to_bits binary32 x))
