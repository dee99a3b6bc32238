-- The products that a sum adds, input by input.
use Rattle.std.specs.Prelude.{List, ℕ, ◌+◌, ◌*◌, Float}
use Rattle.std.specs.Float.{binary32}
use Rattle.std.specs.Float.Ieee.{mul}
use Rattle.lists.specs.Tab.{at}

-- of input j: its weight, which is the one j x step after w, by v j, what the input is
unfoldable pub product : List Float → ℕ → ℕ → (ℕ → Float) → ℕ → Float
product weights w step v j = mul binary32 (at weights (w + j * step)) (v j)
