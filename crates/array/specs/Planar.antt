-- Planar blocks: number at channel x n + column. Document 01, 'The recurrence' (Planar).
use Rattle.std.specs.Prelude.{List, ℕ, ◌+◌, ◌*◌, ◌/◌, ◌%◌, Float}
use Rattle.lists.specs.Tab.{at, tab}
use Rattle.description.specs.Records.{array_of}
use Rattle.array.specs.Stages.{Column}

-- column t of a block of n columns of w channels
unfoldable pub column_in : ℕ → ℕ → List Float → ℕ → List Float
column_in w n block t = tab w (λ c. at block (c * n + t))

-- the columns that a call brings
unfoldable pub columns_in : List ℕ → ℕ → List Float → List Float → List Float → List Column
columns_in d n input condition headIn =
    let a = array_of d in
    tab n (λ t. record {
      signal = column_in a.input n input t;
      accumulator = column_in a.head_in n headIn t;
      condition = column_in a.condition n condition t;
    })

-- n columns of w channels as a block
unfoldable pub block_of : ℕ → ℕ → (ℕ → List Float) → List Float
block_of w n column = tab (w * n) (λ i. at (column (i % n)) (i / n))
