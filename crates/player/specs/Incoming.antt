-- What the planar buffers hold that a block's columns come into.
use Rattle.std.specs.Prelude.{◌≡◌, List, ℕ, ◌+◌, ◌*◌, length}
use Rattle.description.specs.declared.records.ArrayRecord.{ArrayRecord}
use Rattle.wna.specs.Columns.{spread_of}
use Rattle.wna.specs.File.{width_of}
use Rattle.player.specs.declared.incoming.Incoming.{Incoming}

-- planar buffers of n columns of an array
pub record Laid (a : ArrayRecord) (n : ℕ) (p : Incoming) : Type 0 where
  pub input : length p.input.now ≡ a.input * n
  pub condition : length p.condition.now ≡ a.condition * n
  pub head_in : length p.head_in.now ≡ a.head_in * n

-- the same three borrows: each ends as what is written through it
pub record SameIncoming (p p' : Incoming) : Type 0 where
  pub input : p'.input.ghost_name ≡ p.input.ghost_name
  pub condition : p'.condition.ghost_name ≡ p.condition.ghost_name
  pub head_in : p'.head_in.ghost_name ≡ p.head_in.ghost_name

-- the numbers of the first n columns of the bytes
pub record Taken (bytes : List ℕ) (a : ArrayRecord) (n : ℕ) (p : Incoming) : Type 0 where
  pub input : p.input.now ≡ spread_of bytes (width_of a) 0 a.input n
  pub condition : p.condition.now ≡ spread_of bytes (width_of a) a.input a.condition n
  pub head_in : p.head_in.now ≡ spread_of bytes (width_of a) (a.input + a.condition) a.head_in n
