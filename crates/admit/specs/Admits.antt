-- What is promised of the check of a call, and what holds of a call that it lets through. Document 01, 'Refusal numbers' 1 to 8.
use Rattle.std.specs.Prelude.{◌≡◌, List, ℕ, ◌*◌, ◌≤◌, ◌<◌, get_or, length, Float, None, Ok, Some}
use Rattle.shape.specs.declared.Shape.{Shape}
use Rattle.shape.specs.Counts.{ring_length}
use Rattle.description.specs.Records.{array_of}
use Rattle.description.specs.Parts.{parts_of}
use Rattle.description.specs.Sizes.{place_at, sizes_of, widest_of}
use Rattle.description.specs.Refusals.{refusal_of}
use Rattle.refusal.specs.Number.{number_of}
use Rattle.description.specs.Checked.{Checked}
use Rattle.array.specs.Lent.{Lent}
use Rattle.array.specs.Refusals.{block_refusal}

-- the buffers of a call, in the order of its parameters
abbrev pub lent_of : List ℕ → List Float → List Float → List ℕ → List Float → List Float → List Float → List Float → List Float → List Float → Lent
lent_of description weights histories positions input condition head_in head_out array_out scratch =
    record {
      description = description;
      weights = weights;
      histories = histories;
      positions = positions;
      input = input;
      condition = condition;
      head_in = head_in;
      head_out = head_out;
      array_out = array_out;
      scratch = scratch;
    }

-- the answer on a block of n columns, lent b: the lowest number of 1 to 8 that applies, and the sizes where none does
pub record Admits (b : Lent) (n : ℕ) (r : Checked) : Type 0 where
  pub number : number_of r ≡ block_refusal b n
  pub sound : block_refusal b n ≡ 0 → r ≡ Ok (sizes_of b.description)

-- what is lent fits a block of n columns
pub record Admitted (b : Lent) (n : ℕ) : Type 0 where
  pub described : refusal_of b.description ≡ 0
  pub columns : n ≤ 1024
  pub weights : length b.weights ≡ (sizes_of b.description).weights
  pub histories : length b.histories ≡ (sizes_of b.description).histories
  pub positions : length b.positions ≡ (sizes_of b.description).positions
  pub input : length b.input ≡ (array_of b.description).input * n
  pub condition : length b.condition ≡ (array_of b.description).condition * n
  pub head_in : length b.head_in ≡ (array_of b.description).head_in * n
  pub head_out : length b.head_out ≡ (array_of b.description).head_size * n
  pub array_out : length b.array_out ≡ (array_of b.description).channels * n
  pub scratch : 16 * widest_of b.description * n ≤ length b.scratch
  pub places : (i : ℕ) (sh : Shape) → get_or (parts_of b.description) i None ≡ Some sh
      → get_or b.positions (place_at b.description i).positions 0 < ring_length sh
