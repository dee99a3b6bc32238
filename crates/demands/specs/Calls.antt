-- A call as a value, and calls one after the other. Document 01, 'What the contracts have to say' (demand 3).
use Rattle.std.specs.Prelude.{◌≡◌, cond, List, [], ◌∷◌, ◌++◌, ℕ, eqb, Float}
use Rattle.lists.specs.Tab.{tab}
use Rattle.ring.specs.Memory.{Memory}
use Rattle.turns.specs.Grid.{states_after, columns_after}
use Rattle.description.specs.Records.{array_of}
use Rattle.array.specs.Stages.{Column, stage_count, next, out}
use Rattle.array.specs.Memories.{histories_from, positions_from}
use Rattle.array.specs.Planar.{column_in}
use Rattle.array.specs.Lent.{Lent, Left}
use Rattle.array.specs.Refusals.{column_refusal, block_refusal, planned_refusal}
use Rattle.array.specs.Calls.{Answers, brought}

-- a single column, a block of n columns, a block of n columns by a plan
pub data Kind : Type 0 where
  column : Kind
  block : ℕ → Kind
  planned : ℕ → List ℕ → Kind

-- how many columns it brings
unfoldable pub count_of : Kind → ℕ
count_of column = 1
count_of (block n) = n
count_of (planned n plan) = n

-- its refusal number, 0 for none
unfoldable pub refusal_for : Kind → Lent → ℕ
refusal_for column b = column_refusal b
refusal_for (block n) b = block_refusal b n
refusal_for (planned n plan) b = planned_refusal b n plan

-- all that a call was lent and all that it left
pub record Call : Type 0 where
  pub kind : Kind
  pub lent : Lent
  pub left : Left

-- the call meets the contract of its kind
abbrev pub Meets : Call → Type 0
Meets c = Answers c.lent (count_of c.kind) (refusal_for c.kind c.lent) c.left

-- one column after the other, as the outputs hold them; each keeps the condition that came with it
unfoldable pub handed : Call → List Column
handed c =
    let a = array_of c.lent.description in
    let n = count_of c.kind in
    tab n (λ t. record {
      signal = column_in a.channels n c.left.array_out t;
      accumulator = column_in a.head_size n c.left.head_out t;
      condition = column_in a.condition n c.lent.condition t;
    })

-- a refused call, whose answer is not 0, brings nothing and hands out nothing
abbrev pub if_accepted : Call → List Column → List Column
if_accepted c columns = cond (eqb c.left.answer 0) columns []

-- the columns that the accepted calls brought, joined in order
unfoldable pub played : List Call → List Column
played [] = []
played (c ∷ cs) = if_accepted c (brought c.lent (count_of c.kind)) ++ played cs

-- the columns that the accepted calls handed out, joined in order
unfoldable pub given : List Call → List Column
given [] = []
given (c ∷ cs) = if_accepted c (handed c) ++ given cs

module _ (d : List ℕ) (w : List Float) where
  -- a call that is lent these histories and positions and meets its contract; if it was accepted, it had this description and these weights
  pub record Follows (histories : List Float) (positions : List ℕ) (c : Call) : Type 0 where
    pub description_is : c.left.answer ≡ 0 → c.lent.description ≡ d
    pub weights_are : c.left.answer ≡ 0 → c.lent.weights ≡ w
    pub histories_are : c.lent.histories ≡ histories
    pub positions_are : c.lent.positions ≡ positions
    pub meets : Meets c

  -- calls one after the other, refused ones of any kind among them: each is lent what the one before it left
  unfoldable pub Sequence : List Float → List ℕ → List Call → List Float → List ℕ → Type 0
  Sequence histories positions [] histories' positions' = (histories' ≡ histories) × (positions' ≡ positions)
  Sequence histories positions (c ∷ cs) histories' positions' =
      Follows histories positions c × Sequence c.left.histories c.left.positions cs histories' positions'

  -- calls that come to what the recurrence comes to, column by column, over all the columns that they brought: st is what the stages remembered before
  pub record PlaysAs (st : ℕ → List Memory) (calls : List Call) (histories' : List Float) (positions' : List ℕ) : Type 0 where
    pub histories : histories' ≡ histories_from d (states_after (next d w) (out d w) st (played calls))
    pub positions : positions' ≡ positions_from d (states_after (next d w) (out d w) st (played calls))
    pub columns : given calls ≡ columns_after (next d w) (out d w) (stage_count d) st (played calls)
