-- What is printed, as bytes. Document 01, 'The program': "Each whole column prints index (decimal), head outputs, array outputs, as 8 lowercase hex
-- digits, NaN as 7fc00000, one space between. Last line: `end` and the count, or `refused` and the number". Every line ends in a newline.
use Rattle.std.specs.Prelude.{Bool, true, false, cond, List, [], ◌∷◌, ◌++◌, ℕ, zero, suc, ◌+◌, ◌-◌, ◌*◌, ◌/◌, ◌%◌, ◌^◌, eqb, ltb, Float, Result, Ok, Err}
use Rattle.std.specs.Float.{binary32}
use Rattle.std.specs.Float.Ieee.{to_bits}
use Rattle.lists.specs.Tab.{at, tab}
use Rattle.refusal.specs.declared.Refusal.{Refusal}

-- a digit below 16: `0` to `9`, then `a` to `f`
unfoldable pub hex_digit : ℕ → ℕ
hex_digit d = cond (ltb d 10) (48 + d) (87 + d)

-- 32 bits as 8 digits, the highest four bits first
unfoldable pub hex_of : ℕ → List ℕ
hex_of v = tab 8 (λ i. hex_digit (v / 2 ^ (28 - 4 * i) % 16))

-- the decimal digits of n in at most k + 1 places, once it is known whether n is below ten: those of n / 10, and then the last
unfoldable pub decimal_by : ℕ → Bool → ℕ → List ℕ
decimal_by zero below n = (48 + n % 10) ∷ []
decimal_by (suc k) true n = (48 + n) ∷ []
decimal_by (suc k) false n = decimal_by k (ltb (n / 10) 10) (n / 10) ++ (48 + n % 10) ∷ []

-- n in decimal; n places are always enough
unfoldable pub decimal_of : ℕ → List ℕ
decimal_of n = decimal_by n (ltb n 10) n

-- a space and a number's bits, a NaN's as 7fc00000
unfoldable pub spaced_of : Float → List ℕ
spaced_of x = 32 ∷ hex_of (to_bits binary32 x)

unfoldable pub values_text : List Float → List ℕ
values_text [] = []
values_text (x ∷ xs) = spaced_of x ++ values_text xs

-- a column's line
unfoldable pub line_of : ℕ → List Float → List ℕ
line_of index values = decimal_of index ++ (values_text values ++ (10 ∷ []))

-- column t of a planar block of n columns and w rows
unfoldable pub column_of : ℕ → ℕ → ℕ → List Float → List Float
column_of n t w l = tab w (λ c. at l (c * n + t))

-- what a column prints: its head outputs, and then its array outputs
unfoldable pub outputs_of : ℕ → ℕ → List Float → ℕ → List Float → ℕ → List Float
outputs_of n heads head arrays array t = column_of n t heads head ++ column_of n t arrays array

-- the lines of m columns, the first of which has this index
unfoldable pub lines_of : ℕ → (ℕ → List Float) → ℕ → List ℕ
lines_of first column zero = []
lines_of first column (suc m) = lines_of first column m ++ line_of (first + m) (column m)

-- a line of some text and a number
unfoldable pub named_of : List ℕ → ℕ → List ℕ
named_of text n = text ++ (decimal_of n ++ (10 ∷ []))

-- the last line: `end` and the count of columns, or `refused` and the number
unfoldable pub last_of : ℕ → ℕ → List ℕ
last_of number count =
    cond (eqb number 0)
    (named_of (101 ∷ 110 ∷ 100 ∷ 32 ∷ []) count)
    (named_of (114 ∷ 101 ∷ 102 ∷ 117 ∷ 115 ∷ 101 ∷ 100 ∷ 32 ∷ []) number)

-- the count of an outcome, and none where it is a refusal, which is printed by its number alone
abbrev pub count_in : Result ℕ Refusal → ℕ
count_in (Ok count) = count
count_in (Err refusal) = 0
