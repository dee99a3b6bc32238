-- The table's rule, computed once over all entries and carried to each index, and the bounds that the code leans on. Assumes nothing.
use mathlib.Core.Bool.{Bool}
use Prim.Native.Nat.{ℕ, ◌+◌, ◌-◌, ◌*◌, ◌^◌, ◌<◌}
use lib.Dec.{T}
use Rattle.lists.proofs.Every.{every, at_every, rises, rising}
use Rattle.exponent.specs.Table.{table, entry}

-- the rule at index j, as a test: T is the whole number nearest to 2^(30 + j/256)
rule : ℕ → Bool
rule j = rises ((2 * entry j - 1) ^ 256) (2 ^ (7936 + j)) ((2 * entry j + 1) ^ 256)

rule_all : T (every 256 rule)
unfolding rule entry table
rule_all = tt

pub rule_at : (j : ℕ) → j < 256 → ((2 * entry j - 1) ^ 256 < 2 ^ (7936 + j)) × (2 ^ (7936 + j) < (2 * entry j + 1) ^ 256)
unfolding rule
rule_at j h = rising ((2 * entry j - 1) ^ 256) (2 ^ (7936 + j)) ((2 * entry j + 1) ^ 256) (at_every rule 256 rule_all j h)

-- 31 binary digits each
digits : ℕ → Bool
digits j = rises (2 ^ 30 - 1) (entry j) (2 ^ 31)

digits_all : T (every 256 digits)
unfolding digits entry table
digits_all = tt

pub digits_at : (j : ℕ) → j < 256 → (2 ^ 30 - 1 < entry j) × (entry j < 2 ^ 31)
unfolding digits
digits_at j h = rising (2 ^ 30 - 1) (entry j) (2 ^ 31) (at_every digits 256 digits_all j h)
