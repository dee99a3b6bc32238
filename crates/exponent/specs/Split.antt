-- A signed number split by n: the quotient, rounded down, and the remainder, which is not negative. -1 by 256 is -1 and 255.
-- Document 01, 'Tanh and exp'.
use Rattle.std.specs.Prelude.{◌≡◌, ℕ, ◌-◌, ◌/◌, ◌%◌, ◌<◌, ℤ, pos, negsuc, ◌+ℤ◌, ◌*ℤ◌}
use Rattle.exponent.specs.declared.Parts.{Parts}

unfoldable pub parts : ℤ → ℕ → Parts
parts (pos a) n = record { quotient = pos (a / n); remainder = a % n }
parts (negsuc a) n = record { quotient = negsuc (a / n); remainder = n - 1 - a % n }

-- what the code's split promises of its answer r: the parts, and the two facts that leave room for no others
pub record Splits (z : ℤ) (n : ℕ) (r : Parts) : Type 0 where
  pub whole : r.quotient *ℤ pos n +ℤ pos r.remainder ≡ z
  pub below : r.remainder < n
  pub is : r ≡ parts z n
