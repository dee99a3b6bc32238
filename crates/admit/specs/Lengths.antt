-- The test of refusal 7 with the array's record and the sizes at hand: for the contract of the function inside `call`, whose own promise does not rest on
-- it.
use Rattle.std.specs.Prelude.{List, Bool, not, ◌||◌, ℕ, ◌*◌, eqb, ltb, length}
use Rattle.description.specs.declared.records.ArrayRecord.{ArrayRecord}
use Rattle.description.specs.declared.answers.Sizes.{Sizes}
use Rattle.array.specs.Lent.{Lent}

abbrev differs : {A : Type 0} → List A → ℕ → Bool
differs l n = not (eqb (length l) n)

-- a length differs from width x n or from its size; scratch shorter than 16 x W x n
unfoldable pub differing : Lent → ArrayRecord → Sizes → ℕ → Bool
differing b a s n =
    differs b.weights s.weights || differs b.histories s.histories || differs b.positions s.positions
    || differs b.input (a.input * n) || differs b.condition (a.condition * n) || differs b.head_in (a.head_in * n)
    || differs b.head_out (a.head_size * n) || differs b.array_out (a.channels * n)
    || ltb (length b.scratch) (16 * s.widest * n)
