-- A whole file: how many columns the program plays and prints, and which number it ends with. Document 01, 'The program', in one place.
use Rattle.std.specs.Prelude.{cond, List, ℕ, ◌+◌, ◌-◌, ◌*◌, eqb, length}
use Rattle.description.specs.Records.{array_of}
use Rattle.description.specs.Sizes.{sizes_of}
use Rattle.description.specs.declared.records.ArrayRecord.{ArrayRecord}
use Rattle.wna.specs.Header.{columns_of}
use Rattle.wna.specs.Opening.{description_of, opening_refusal, weights_at}
use Rattle.wna.specs.Stream.{played_of, stream_refusal}

-- the numbers of a column: input, condition, incoming head
abbrev pub width_of : ArrayRecord → ℕ
width_of a = a.input + a.condition + a.head_in

-- the bytes that follow the weights
unfoldable pub stream_of : List ℕ → ℕ
stream_of f = length f - (weights_at f + 4 * (sizes_of (description_of f)).weights)

-- how many columns are played and printed
unfoldable pub file_played : List ℕ → ℕ
file_played f = cond (eqb (opening_refusal f) 0) (played_of (columns_of f) (width_of (array_of (description_of f))) (stream_of f)) 0

-- the number at the end: 0 is the line `end` with the column count
unfoldable pub file_refusal : List ℕ → ℕ
file_refusal f = cond (eqb (opening_refusal f) 0) (stream_refusal (columns_of f) (width_of (array_of (description_of f))) (stream_of f)) (opening_refusal f)
