-- Reset. Document 01, 'The recurrence' ("Reset: histories +0, positions ring length - 1") and 'Refusal numbers' 1 to 5 and 7.
use Rattle.std.specs.Prelude.{◌≡◌, Bool, cond, not, ◌||◌, List, [], ◌∷◌, ◌++◌, ℕ, ◌-◌, eqb, length, replicate, Float, None, Some}
use Rattle.std.specs.Float.{binary32}
use Rattle.std.specs.Float.Ieee.{of_bits}
use Rattle.shape.specs.Counts.{ring_length}
use Rattle.description.specs.Parts.{parts_of}
use Rattle.description.specs.Sizes.{histories_of, positions_of, total}
use Rattle.description.specs.Refusals.{refusal_of}
use Rattle.description.specs.Part.{Part}

-- a part's position: ring length - 1
unfoldable pub start_of : Part → List ℕ
start_of None = []
start_of (Some sh) = (ring_length sh - 1) ∷ []

-- the positions of parts, in their order
unfoldable pub starts_of : List Part → List ℕ
starts_of [] = []
starts_of (p ∷ ps) = start_of p ++ starts_of ps

-- histories +0
unfoldable pub silence_of : ℕ → List Float
silence_of n = replicate n (of_bits binary32 0)

-- 7: a buffer's length differs from its size
unfoldable pub refused7 : List ℕ → ℕ → ℕ → Bool
refused7 d histories positions = not (eqb histories (total histories_of (parts_of d))) || not (eqb positions (total positions_of (parts_of d)))

-- the lowest applicable number of 1 to 5 and 7, 0 where there is none
unfoldable pub reset_number : List ℕ → ℕ → ℕ → ℕ
reset_number d histories positions = cond (eqb (refusal_of d) 0) (cond (refused7 d histories positions) 7 0) (refusal_of d)

-- what is promised of a reset of description d: the answer r, and the buffers at exit from those at entry; refused, they are what they were
pub record Resets (d : List ℕ) (histories : List Float) (positions : List ℕ) (r : ℕ) (histories' : List Float) (positions' : List ℕ) : Type 0 where
  pub number : r ≡ reset_number d (length histories) (length positions)
  pub silent : histories' ≡ cond (eqb r 0) (silence_of (total histories_of (parts_of d))) histories
  pub rewound : positions' ≡ cond (eqb r 0) (starts_of (parts_of d)) positions
