-- All that the program prints for a file, as one function of its bytes. Document 01, 'The program'. No contract here says which bytes are read or written, so
-- no function here promises it: the parts that they promise are joined in proofs/Joined.antt, and case A is computed from it in proofs/Cases.antt.
use Rattle.std.specs.Prelude.{cond, List, [], ◌++◌, ℕ, ◌+◌, ◌*◌, eqb, Float, drop}
use Rattle.description.specs.Sizes.{sizes_of}
use Rattle.array.specs.Stages.{Column}
use Rattle.demands.specs.Silence.{silence}
use Rattle.lines.specs.Text.{last_of}
use Rattle.wna.specs.File.{file_played, file_refusal}
use Rattle.wna.specs.Header.{columns_of}
use Rattle.wna.specs.Opening.{description_of, opening_refusal, weights_at}
use Rattle.wna.specs.Words.{floats_of}
use Rattle.player.specs.Plays.{column_lines, columns_held, columns_past}

module _ (f : List ℕ) where
  -- the weights, and the columns that are played
  unfoldable pub weights_in : List Float
  weights_in = floats_of (sizes_of (description_of f)).weights (drop (weights_at f) f)

  unfoldable pub columns_in : List Column
  columns_in = columns_held (description_of f) (drop (weights_at f + 4 * (sizes_of (description_of f)).weights) f) (file_played f)

  -- the lines of the columns, from a reset, where nothing is refused before them; then the last line
  unfoldable pub file_text : List ℕ
  file_text =
      cond (eqb (opening_refusal f) 0) (column_lines 0 (columns_past (description_of f) weights_in (silence (description_of f)) columns_in)) []
      ++ last_of (file_refusal f) (columns_of f)
