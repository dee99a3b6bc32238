-- Document 01's lines for case A, a NaN, and the last lines, computed from the definitions. Assumes nothing.
use mathlib.Core.Path.{◌≡◌, refl}
use mathlib.Core.List.{[], ◌∷◌}
use lib.Ieee.{binary32, of_bits, to_bits, nan}
use Rattle.lists.specs.Tab.{tab}
use Rattle.lines.specs.Text.{decimal_by, decimal_of, hex_digit, hex_of, last_of, line_of, named_of, spaced_of, values_text}

-- `0 40400000 40200000`
pub first_line : line_of 0 (of_bits binary32 0x4040_0000 ∷ of_bits binary32 0x4020_0000 ∷ [])
    ≡ 48 ∷ 32 ∷ 52 ∷ 48 ∷ 52 ∷ 48 ∷ 48 ∷ 48 ∷ 48 ∷ 48 ∷ 32 ∷ 52 ∷ 48 ∷ 50 ∷ 48 ∷ 48 ∷ 48 ∷ 48 ∷ 48 ∷ 10 ∷ []
unfolding line_of decimal_of decimal_by values_text spaced_of hex_of hex_digit tab to_bits of_bits
first_line = refl

-- `3 00000000 c0f00000`
pub fourth_line : line_of 3 (of_bits binary32 0 ∷ of_bits binary32 0xc0f0_0000 ∷ [])
    ≡ 51 ∷ 32 ∷ 48 ∷ 48 ∷ 48 ∷ 48 ∷ 48 ∷ 48 ∷ 48 ∷ 48 ∷ 32 ∷ 99 ∷ 48 ∷ 102 ∷ 48 ∷ 48 ∷ 48 ∷ 48 ∷ 48 ∷ 10 ∷ []
unfolding line_of decimal_of decimal_by values_text spaced_of hex_of hex_digit tab to_bits of_bits
fourth_line = refl

-- a NaN as 7fc00000; an index of ten digits
pub nan_line : line_of 4294967294 (nan ∷ [])
    ≡ 52 ∷ 50 ∷ 57 ∷ 52 ∷ 57 ∷ 54 ∷ 55 ∷ 50 ∷ 57 ∷ 52 ∷ 32 ∷ 55 ∷ 102 ∷ 99 ∷ 48 ∷ 48 ∷ 48 ∷ 48 ∷ 48 ∷ 10 ∷ []
unfolding line_of decimal_of decimal_by values_text spaced_of hex_of hex_digit tab to_bits of_bits
nan_line = refl

-- `end 4`
pub end_line : last_of 0 4 ≡ 101 ∷ 110 ∷ 100 ∷ 32 ∷ 52 ∷ 10 ∷ []
unfolding last_of named_of decimal_of decimal_by
end_line = refl

-- `refused 10`
pub refused_line : last_of 10 4 ≡ 114 ∷ 101 ∷ 102 ∷ 117 ∷ 115 ∷ 101 ∷ 100 ∷ 32 ∷ 49 ∷ 48 ∷ 10 ∷ []
unfolding last_of named_of decimal_of decimal_by
refused_line = refl
