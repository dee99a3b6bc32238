-- How the columns stream: blocks of the block size, the last one shorter. Document 01, 'The program': "a cut or missing column or bytes left over give
-- 10 after the whole columns". A column is so many bytes, and the stream is what follows the weights.
use Rattle.std.specs.Prelude.{cond, ℕ, ◌*◌, ◌/◌, min, eqb}

-- the next block, from the columns that are left
unfoldable pub next_block : ℕ → ℕ → ℕ
next_block block left = min block left

-- the whole columns in so many bytes
unfoldable pub whole_in : ℕ → ℕ → ℕ
whole_in width bytes = bytes / (4 * width)

-- how many columns are played and printed
unfoldable pub played_of : ℕ → ℕ → ℕ → ℕ
played_of columns width bytes = min columns (whole_in width bytes)

-- 10: a cut or missing column, or bytes left over; else 0
unfoldable pub stream_refusal : ℕ → ℕ → ℕ → ℕ
stream_refusal columns width bytes = cond (eqb bytes (columns * (4 * width))) 0 10
