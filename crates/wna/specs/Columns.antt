-- Columns as they arrive, each input, condition, incoming head, and planar: number at channel x n + column. Document 01, 'The program', 'The recurrence'.
use Rattle.std.specs.Prelude.{List, ℕ, ◌+◌, ◌*◌, ◌/◌, ◌%◌, Float}
use Rattle.lists.specs.Tab.{tab}
use Rattle.wna.specs.Words.{float_at}

-- number k of column t, of columns of so many numbers
unfoldable pub number_at : List ℕ → ℕ → ℕ → ℕ → Float
number_at f width t k = float_at f (4 * (t * width + k))

-- w rows of n columns, row c and column t by the rule
unfoldable pub planar_of : ℕ → ℕ → (ℕ → ℕ → Float) → List Float
planar_of w n f = tab (w * n) (λ i. f (i / n) (i % n))

-- the w numbers from number k on of n columns, planar
unfoldable pub spread_of : List ℕ → ℕ → ℕ → ℕ → ℕ → List Float
spread_of f width k w n = planar_of w n (λ c t. number_at f width t (k + c))
