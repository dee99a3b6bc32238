-- What the program's functions ask of each other: a block of n columns of an array fits into the buffers, planar, as bytes and as text, and histories
-- and positions are those after the columns so far.
use Rattle.std.specs.Prelude.{◌≡◌, List, ℕ, ◌+◌, ◌*◌, ◌≤◌, Float, length}
use Rattle.description.specs.Records.{array_of}
use Rattle.description.specs.Refusals.{refusal_of}
use Rattle.description.specs.Sizes.{sizes_of, widest_of}
use Rattle.description.specs.declared.records.ArrayRecord.{ArrayRecord}
use Rattle.player.specs.Plays.{Heard}

-- each width is 1..32, and a planar buffer of n columns has room
pub record Wide (w n : ℕ) : Type 0 where
  pub some : 1 ≤ w
  pub most : w ≤ 32
  pub held : w * n ≤ 1024

pub record Fits (a : ArrayRecord) (n : ℕ) : Type 0 where
  pub input : Wide a.input n
  pub condition : Wide a.condition n
  pub head : Wide a.head_in n
  pub outs : Wide a.head_size n
  pub array : Wide a.channels n

-- the description and its array record, for blocks of at most n columns
pub record Suits (d : List ℕ) (a : ArrayRecord) (n : ℕ) : Type 0 where
  pub fits : Fits a n
  pub array_is : a ≡ array_of d
  pub sound : refusal_of d ≡ 0
  pub planar : widest_of d * n ≤ 1024
  pub most : n ≤ 1024

-- what a block of n columns is lent, the first of which has this index
pub record Ready (d : List ℕ) (a : ArrayRecord) (n first : ℕ) (weights histories : List Float) (positions : List ℕ) (scratch : List Float) (text : List ℕ) : Type 0 where
  pub suits : Suits d a n
  pub weights_are : length weights ≡ (sizes_of d).weights
  pub heard : Heard d weights first histories positions
  pub last : first + n ≤ 4294967296
  pub scratch_room : 16384 ≤ length scratch
  pub text_room : 29696 ≤ length text
