-- All that a call is lent, and what it leaves. Document 01, 'What the contracts have to say'.
use Rattle.std.specs.Prelude.{List, ℕ, Float}

-- the buffers at entry
pub record Lent : Type 0 where
  pub description : List ℕ
  pub weights : List Float
  pub histories : List Float
  pub positions : List ℕ
  pub input : List Float
  pub condition : List Float
  pub head_in : List Float
  pub head_out : List Float
  pub array_out : List Float
  pub scratch : List Float

-- the same buffers, but for what scratch holds
abbrev pub with_scratch : Lent → List Float → Lent
with_scratch b scratch = record {
  description = b.description;
  weights = b.weights;
  histories = b.histories;
  positions = b.positions;
  input = b.input;
  condition = b.condition;
  head_in = b.head_in;
  head_out = b.head_out;
  array_out = b.array_out;
  scratch = scratch;
}

-- those that are only read
pub record Given : Type 0 where
  pub description : List ℕ
  pub weights : List Float
  pub input : List Float
  pub condition : List Float
  pub head_in : List Float

abbrev pub given : Lent → Given
given b = record { description = b.description; weights = b.weights; input = b.input; condition = b.condition; head_in = b.head_in }

-- the answer, and at exit the buffers that may be written
pub record Left : Type 0 where
  pub answer : ℕ
  pub histories : List Float
  pub positions : List ℕ
  pub head_out : List Float
  pub array_out : List Float
  pub scratch : List Float
