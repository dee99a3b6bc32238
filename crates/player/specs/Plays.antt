-- What the program does with the bytes of whole columns: the recurrence's columns, as lines of text. Document 01, 'The program'.
use Rattle.std.specs.Prelude.{◌≡◌, List, ◌++◌, ℕ, ◌+◌, ◌≤◌, Float, get_or, length}
use Rattle.lists.specs.Tab.{tab}
use Rattle.ring.specs.Memory.{Memory}
use Rattle.turns.specs.Grid.{columns_after, states_after}
use Rattle.description.specs.Records.{array_of}
use Rattle.array.specs.Stages.{Column, next, out, stage_count}
use Rattle.array.specs.Memories.{histories_from, memories_of, positions_from}
use Rattle.array.specs.Calls.{no_column}
use Rattle.demands.specs.Silence.{silence}
use Rattle.lines.specs.Text.{lines_of}
use Rattle.lines.specs.Lines.{Printed}
use Rattle.wna.specs.Columns.{number_at}
use Rattle.wna.specs.File.{width_of}

-- "then columns, each input, condition, incoming head": column t of the bytes
unfoldable pub column_held : List ℕ → List ℕ → ℕ → Column
column_held d bytes t =
    let a = array_of d in
    record {
      signal = tab a.input (λ c. number_at bytes (width_of a) t c);
      accumulator = tab a.head_in (λ c. number_at bytes (width_of a) t (a.input + a.condition + c));
      condition = tab a.condition (λ c. number_at bytes (width_of a) t (a.input + c));
    }

-- the first n columns of the bytes
unfoldable pub columns_held : List ℕ → List ℕ → ℕ → List Column
columns_held d bytes n = tab n (column_held d bytes)

-- the lines of columns that are past all stages, the first of which has this index: head outputs, then array outputs
unfoldable pub column_lines : ℕ → List Column → List ℕ
column_lines first columns = lines_of first (λ t. let v = get_or columns t no_column in v.accumulator ++ v.signal) (length columns)

module _ (d : List ℕ) (w : List Float) where
  -- columns past all stages, and what the stages remember then, from what they remembered
  abbrev pub columns_past : (ℕ → List Memory) → List Column → List Column
  columns_past st columns = columns_after (next d w) (out d w) (stage_count d) st columns

  abbrev pub states_past : (ℕ → List Memory) → List Column → ℕ → List Memory
  states_past st columns = states_after (next d w) (out d w) st columns

  -- the first n columns of the bytes are played: their lines in the text, and the histories and positions after them
  pub record Plays (bytes : List ℕ) (n first : ℕ) (histories : List Float) (positions text : List ℕ) (r : ℕ) (histories' : List Float) (positions' text' : List ℕ) : Type 0 where
    pub printed : Printed text 0 (column_lines first (columns_past (memories_of d histories positions) (columns_held d bytes n))) r text'
    pub histories_are : histories' ≡ histories_from d (states_past (memories_of d histories positions) (columns_held d bytes n))
    pub positions_are : positions' ≡ positions_from d (states_past (memories_of d histories positions) (columns_held d bytes n))

  -- histories and positions after so many columns from a reset
  pub record Heard (count : ℕ) (histories : List Float) (positions : List ℕ) : Type 0 where
    pub columns : List Column
    pub counted : length columns ≡ count
    pub histories_are : histories ≡ histories_from d (states_past (silence d) columns)
    pub positions_are : positions ≡ positions_from d (states_past (silence d) columns)

  -- the stream has ended with this number: so many columns are played, and all that were counted where it is 0
  pub record Ended (columns number : ℕ) (histories : List Float) (positions : List ℕ) : Type 0 where
    pub played : ℕ
    pub heard : Heard played histories positions
    pub most : played ≤ columns
    pub all : number ≡ 0 → played ≡ columns

  -- of so many columns after the first ones, only some are played
  pub record Partly (first columns : ℕ) (histories : List Float) (positions : List ℕ) : Type 0 where
    pub played : ℕ
    pub most : played ≤ columns
    pub heard : Heard (first + played) histories positions
