-- How results of calls compare. Document 01, 'What the contracts have to say'. Scratch after success is exempt, so it stands in none of these.
use Rattle.std.specs.Prelude.{◌≡◌, List, [], ℕ, get_or, Float}
use Rattle.ring.specs.Memory.{Memory}
use Rattle.turns.specs.Grid.{states_after, columns_after}
use Rattle.description.specs.Records.{array_of}
use Rattle.array.specs.Stages.{Column, stage_count, next, out}
use Rattle.array.specs.Memories.{memories_of, histories_from, positions_from}
use Rattle.array.specs.Planar.{columns_in, block_of}
use Rattle.array.specs.Lent.{Left}
use Rattle.array.specs.Calls.{no_column}
use Rattle.demands.specs.Calls.{Call, count_of, played, given}

-- two results agree
pub record Agree (e e' : Left) : Type 0 where
  pub answer_same : e.answer ≡ e'.answer
  pub histories_same : e.histories ≡ e'.histories
  pub positions_same : e.positions ≡ e'.positions
  pub head_out_same : e.head_out ≡ e'.head_out
  pub array_out_same : e.array_out ≡ e'.array_out

-- a call changed nothing
pub record Unchanged (c : Call) : Type 0 where
  pub histories_kept : c.left.histories ≡ c.lent.histories
  pub positions_kept : c.left.positions ≡ c.lent.positions
  pub head_out_kept : c.left.head_out ≡ c.lent.head_out
  pub array_out_kept : c.left.array_out ≡ c.lent.array_out

-- two sequences of calls come to the same
pub record SameEnd (calls calls' : List Call) (histories histories' : List Float) (positions positions' : List ℕ) : Type 0 where
  pub histories_same : histories ≡ histories'
  pub positions_same : positions ≡ positions'
  pub columns_same : given calls ≡ given calls'

-- calls of which none was accepted
pub record NothingPlayed (calls : List Call) (histories histories' : List Float) (positions positions' : List ℕ) : Type 0 where
  pub histories_kept : histories' ≡ histories
  pub positions_kept : positions' ≡ positions
  pub none_played : played calls ≡ []
  pub none_given : given calls ≡ []

module _ (c : Call) where
  abbrev d : List ℕ
  d = c.lent.description

  abbrev n : ℕ
  n = count_of c.kind

  -- the columns that come to the first stage: input, incoming head and condition
  abbrev pub coming : List Column
  coming = columns_in d n c.lent.input c.lent.condition c.lent.head_in

  -- what the stages remembered before them
  abbrev pub before : ℕ → List Memory
  before = memories_of d c.lent.histories c.lent.positions

  -- what the stages remember after them, and the columns past the last stage
  unfoldable pub remembered : ℕ → List Memory
  remembered = states_after (next d c.lent.weights) (out d c.lent.weights) before coming

  unfoldable pub leaving : List Column
  leaving = columns_after (next d c.lent.weights) (out d c.lent.weights) (stage_count d) before coming

  -- demand 2: one call's outputs, histories and positions are the recurrence's over its columns, one at a time
  pub record PlaysColumns : Type 0 where
    pub histories : c.left.histories ≡ histories_from d remembered
    pub positions : c.left.positions ≡ positions_from d remembered
    pub head_out : c.left.head_out ≡ block_of (array_of d).head_size n (λ t. (get_or leaving t no_column).accumulator)
    pub array_out : c.left.array_out ≡ block_of (array_of d).channels n (λ t. (get_or leaving t no_column).signal)
