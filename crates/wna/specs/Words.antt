-- Numbers in a file of bytes, little-endian. Document 01, 'The program'.
use Rattle.std.specs.Prelude.{List, ℕ, ◌+◌, ◌*◌, Float, get_or}
use Rattle.std.specs.Float.{binary32}
use Rattle.std.specs.Float.Ieee.{of_bits}
use Rattle.lists.specs.Tab.{tab}

-- 16 bits at a place
unfoldable pub half_at : List ℕ → ℕ → ℕ
half_at f i = get_or f i 0 + 256 * get_or f (i + 1) 0

-- 32 bits at a place
unfoldable pub word_at : List ℕ → ℕ → ℕ
word_at f i = half_at f i + 65536 * half_at f (i + 2)

-- a float at a place, by its bits
unfoldable pub float_at : List ℕ → ℕ → Float
float_at f i = of_bits binary32 (word_at f i)

-- n numbers, one after the other, from the first byte on
unfoldable pub words_of : ℕ → List ℕ → List ℕ
words_of n f = tab n (λ i. word_at f (4 * i))

unfoldable pub floats_of : ℕ → List ℕ → List Float
floats_of n f = tab n (λ i. float_at f (4 * i))
