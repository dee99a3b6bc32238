-- Worked cases of the definition. Assumes nothing.
use mathlib.Core.Path.{◌≡◌, refl}
use mathlib.Core.Bool.{true, false}
use lib.Ieee.{binary32, of_bits, to_bits, add, mul}
use Rattle.film.specs.Modulated.{modulated, modulation_of}

-- 3 by 2 and -1 gives 5
shifted_case : to_bits binary32 (modulated (modulation_of true (of_bits binary32 0x4000_0000) (of_bits binary32 0xbf80_0000)) (of_bits binary32 0x4040_0000)) ≡ 0x40a0_0000
unfolding modulated modulation_of add mul of_bits to_bits
shifted_case = refl

-- -0 by 2 without a shift stays -0; with a shift of +0 it becomes +0
no_shift_case : to_bits binary32 (modulated (modulation_of false (of_bits binary32 0x4000_0000) (of_bits binary32 0)) (of_bits binary32 0x8000_0000)) ≡ 0x8000_0000
unfolding modulated modulation_of mul of_bits to_bits
no_shift_case = refl

zero_shift_case : to_bits binary32 (modulated (modulation_of true (of_bits binary32 0x4000_0000) (of_bits binary32 0)) (of_bits binary32 0x8000_0000)) ≡ 0
unfolding modulated modulation_of add mul of_bits to_bits
zero_shift_case = refl
