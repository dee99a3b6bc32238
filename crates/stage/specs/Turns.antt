-- What a turn of a stage asks, and what it does: a turn by the definition (TurnDone). Document 01, 'Plans'.
use Rattle.std.specs.Prelude.{◌≡◌, List, ℕ, ◌+◌, ◌*◌, ◌≤◌, ◌<◌, length, get_or, Float, None, Some}
use Rattle.shape.specs.declared.Shape.{Shape}
use Rattle.shape.specs.Counts.{ring_length}
use Rattle.description.specs.Parts.{parts_of}
use Rattle.description.specs.Records.{array_of}
use Rattle.description.specs.Refusals.{refusal_of}
use Rattle.description.specs.Sizes.{weights_of, histories_of, positions_of, total, place_at, widest_of}
use Rattle.description.specs.declared.places.Place.{Place}
use Rattle.array.specs.Stages.{stage_count}
use Rattle.array.specs.declared.Buffers.{Buffers}
use Rattle.array.specs.declared.Sources.{Sources}
use Rattle.array.specs.Buffers.{changed_by, read_by}
use Rattle.array.specs.Turn.{start_of, TurnDone}
use Rattle.stage.specs.declared.span.Span.{Span}

-- every position is below its ring length
pub record Placed (d : List ℕ) (positions : List ℕ) : Type 0 where
  pub is : (i : ℕ) (sh : Shape) → get_or (parts_of d) i None ≡ Some sh → get_or positions (place_at d i).positions 0 < ring_length sh

-- a turn of stage k, whose numbers start at a place
pub record StageFits (d : List ℕ) (span : Span) (k : ℕ) (start : Place) (nweights nhistories : ℕ) (positions : List ℕ) (nscratch : ℕ) : Type 0 where
  pub sound : refusal_of d ≡ 0
  pub stage_in : k < stage_count d
  pub some : 0 < span.count
  pub columns_inside : span.from + span.count ≤ span.n
  pub few : span.n ≤ 1024
  pub size_is : span.size ≡ widest_of d * span.n
  pub weights_are : nweights ≡ total weights_of (parts_of d)
  pub histories_are : nhistories ≡ total histories_of (parts_of d)
  pub positions_are : length positions ≡ total positions_of (parts_of d)
  pub scratch_is : nscratch ≡ 16 * span.size
  pub places : Placed d positions
  pub start_is : start ≡ start_of d k

-- the blocks of n columns are as long as they should be
pub record Blocks (d : List ℕ) (n : ℕ) (input condition headIn headOut arrayOut : List Float) : Type 0 where
  pub input_is : length input ≡ (array_of d).input * n
  pub condition_is : length condition ≡ (array_of d).condition * n
  pub head_in_is : length headIn ≡ (array_of d).head_in * n
  pub head_out_is : length headOut ≡ (array_of d).head_size * n
  pub array_out_is : length arrayOut ≡ (array_of d).channels * n

-- the same of the buffers that a turn is lent
abbrev pub TurnFits : Sources → Buffers → List Float → Span → ℕ → Place → Type 0
TurnFits s b scratch span k start = StageFits s.description.now span k start (length s.weights.now) (length b.histories.now) b.positions.now (length scratch)

abbrev pub BlocksFit : Sources → Buffers → ℕ → Type 0
BlocksFit s b n = Blocks s.description.now n s.input.now s.condition.now s.head_in.now b.head_out.now b.array_out.now

-- stage k took the span's columns
abbrev pub TurnTaken : Sources → Buffers → List Float → Buffers → List Float → Span → ℕ → Type 0
TurnTaken s b scratch b' scratch' span k = TurnDone (read_by s) span.n k span.from span.count (changed_by b scratch) (changed_by b' scratch')
