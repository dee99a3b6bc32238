-- Sums in a fixed order, each rounded once. Document 01, 'The recurrence': start at .., add product by product.
use Rattle.std.specs.Prelude.{ℕ, zero, suc, Float}
use Rattle.std.specs.Float.{binary32}
use Rattle.std.specs.Float.Ieee.{add}

-- ((start + term 0) + term 1) + .. + term (n - 1)
unfoldable pub sum_from : Float → ℕ → (ℕ → Float) → Float
sum_from start zero term = start
sum_from start (suc n) term = add binary32 (sum_from start n term) (term n)
