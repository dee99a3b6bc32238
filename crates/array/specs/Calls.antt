-- What a call leaves: on a refusal its number and every buffer as it was; else the recurrence's outputs, histories and positions. Document 01,
-- 'What the contracts have to say'.
use Rattle.std.specs.Prelude.{◌≡◌, cond, List, [], ℕ, eqb, get_or, Float}
use Rattle.ring.specs.Memory.{Memory}
use Rattle.turns.specs.Grid.{states_after, columns_after}
use Rattle.description.specs.Records.{array_of}
use Rattle.array.specs.Stages.{Column, stage_count, next, out}
use Rattle.array.specs.Memories.{memories_of, histories_from, positions_from}
use Rattle.array.specs.Planar.{columns_in, block_of}
use Rattle.array.specs.Lent.{Lent, Left}

-- no column
abbrev pub no_column : Column
no_column = record { signal = []; accumulator = []; condition = [] }

-- what the stages remember after columns, one at a time, from what the histories and positions hold
unfoldable pub states_from : Lent → List Column → ℕ → List Memory
states_from b columns =
    states_after (next b.description b.weights) (out b.description b.weights) (memories_of b.description b.histories b.positions) columns

-- the columns past all stages
unfoldable pub columns_from : Lent → List Column → List Column
columns_from b columns =
    columns_after (next b.description b.weights) (out b.description b.weights) (stage_count b.description)
    (memories_of b.description b.histories b.positions) columns

-- the columns that the call brings
unfoldable pub brought : Lent → ℕ → List Column
brought b n = columns_in b.description n b.input b.condition b.head_in

module _ (b : Lent) (n : ℕ) where
  unfoldable pub histories_played : List Float
  histories_played = histories_from b.description (states_from b (brought b n))

  unfoldable pub positions_played : List ℕ
  positions_played = positions_from b.description (states_from b (brought b n))

  unfoldable pub head_played : List Float
  head_played = block_of (array_of b.description).head_size n (λ t. (get_or (columns_from b (brought b n)) t no_column).accumulator)

  unfoldable pub array_played : List Float
  array_played = block_of (array_of b.description).channels n (λ t. (get_or (columns_from b (brought b n)) t no_column).signal)

  -- with this refusal number, 0 for none: what is left. Scratch after success is free
  pub record Answers (refusal : ℕ) (e : Left) : Type 0 where
    pub answer : e.answer ≡ refusal
    pub histories : e.histories ≡ cond (eqb refusal 0) histories_played b.histories
    pub positions : e.positions ≡ cond (eqb refusal 0) positions_played b.positions
    pub head_out : e.head_out ≡ cond (eqb refusal 0) head_played b.head_out
    pub array_out : e.array_out ≡ cond (eqb refusal 0) array_played b.array_out
    pub scratch : e.scratch ≡ cond (eqb refusal 0) e.scratch b.scratch
