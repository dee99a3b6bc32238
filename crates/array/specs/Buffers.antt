-- What the buffers that a call is lent hold.
use Rattle.std.specs.Prelude.{◌≡◌, List, ℕ, length, Float}
use Rattle.array.specs.declared.Sources.{Sources}
use Rattle.array.specs.declared.Buffers.{Buffers}
use Rattle.array.specs.declared.Shared.{Shared}
use Rattle.array.specs.Lent.{Given, Left, Lent}
use Rattle.array.specs.Turn.{Changing}

-- all that is lent, as a call finds it
abbrev pub lent : Sources → Buffers → List Float → Lent
lent s b scratch = record {
  description = s.description.now;
  weights = s.weights.now;
  histories = b.histories.now;
  positions = b.positions.now;
  input = s.input.now;
  condition = s.condition.now;
  head_in = s.head_in.now;
  head_out = b.head_out.now;
  array_out = b.array_out.now;
  scratch = scratch;
}

-- the same, as a check finds it
abbrev pub lent_shared : Sources → Shared → List Float → Lent
lent_shared s b scratch = record {
  description = s.description.now;
  weights = s.weights.now;
  histories = b.histories.now;
  positions = b.positions.now;
  input = s.input.now;
  condition = s.condition.now;
  head_in = s.head_in.now;
  head_out = b.head_out.now;
  array_out = b.array_out.now;
  scratch = scratch;
}

-- the answer and the buffers at exit
abbrev pub left : ℕ → Buffers → List Float → Left
left answer b scratch = record {
  answer = answer;
  histories = b.histories.now;
  positions = b.positions.now;
  head_out = b.head_out.now;
  array_out = b.array_out.now;
  scratch = scratch;
}

-- what turns read, and what they change
abbrev pub read_by : Sources → Given
read_by s = record {
  description = s.description.now;
  weights = s.weights.now;
  input = s.input.now;
  condition = s.condition.now;
  head_in = s.head_in.now;
}

abbrev pub changed_by : Buffers → List Float → Changing
changed_by b scratch = record {
  histories = b.histories.now;
  positions = b.positions.now;
  head_out = b.head_out.now;
  array_out = b.array_out.now;
  scratch = scratch;
}

-- the same four borrows, as long as they were: each ends as what is written through it
pub record SameBuffers (b b' : Buffers) : Type 0 where
  pub histories : b'.histories.ghost_name ≡ b.histories.ghost_name
  pub positions : b'.positions.ghost_name ≡ b.positions.ghost_name
  pub head_out : b'.head_out.ghost_name ≡ b.head_out.ghost_name
  pub array_out : b'.array_out.ghost_name ≡ b.array_out.ghost_name
  pub histories_long : length b'.histories.now ≡ length b.histories.now
  pub positions_long : length b'.positions.now ≡ length b.positions.now
  pub head_long : length b'.head_out.now ≡ length b.head_out.now
  pub array_long : length b'.array_out.now ≡ length b.array_out.now
