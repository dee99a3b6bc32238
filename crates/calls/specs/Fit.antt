-- What the loops over stages and turns ask, and what they leave: the recurrence's outputs, histories and positions.
use Rattle.std.specs.Prelude.{◌≡◌, List, ℕ, ◌*◌, ◌<◌, length, get_or, Float}
use Rattle.description.specs.Sizes.{widest_of}
use Rattle.description.specs.declared.places.Place.{Place}
use Rattle.array.specs.Stages.{stage_count}
use Rattle.array.specs.Lent.{Lent, Left}
use Rattle.array.specs.Turn.{Changing, start_of}
use Rattle.array.specs.Calls.{histories_played, positions_played, head_played, array_played}
use Rattle.admit.specs.Admits.{Admitted}

-- a call that was let through, of at least one column; its scratch is cut to sixteen regions
pub record Fit (b : Lent) (n size : ℕ) : Type 0 where
  pub admitted : Admitted b n
  pub some : 0 < n
  pub size_is : size ≡ widest_of b.description * n
  pub scratch_is : length b.scratch ≡ 16 * size

-- all columns are past all stages
pub record Done (b : Lent) (n : ℕ) (e : Changing) : Type 0 where
  pub histories_are : e.histories ≡ histories_played b n
  pub positions_are : e.positions ≡ positions_played b n
  pub head_is : e.head_out ≡ head_played b n
  pub array_is : e.array_out ≡ array_played b n

-- what stands past a list's end
abbrev pub nowhere : Place
nowhere = record { weights = 0; histories = 0; positions = 0 }

-- where the stages' numbers start
pub record Starts (d : List ℕ) (places : List Place) : Type 0 where
  pub each : (k : ℕ) → k < stage_count d → get_or places k nowhere ≡ start_of d k

-- the answer and the buffers at exit
abbrev pub left_of : ℕ → List Float → List ℕ → List Float → List Float → List Float → Left
left_of answer histories positions headOut arrayOut scratch =
    record { answer = answer; histories = histories; positions = positions; head_out = headOut; array_out = arrayOut; scratch = scratch }
