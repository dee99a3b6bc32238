-- The refusal numbers 6 to 9: "given exactly when", and the refusal of each call. Document 01, 'Refusal numbers'. Each test presumes the lower ones
-- passed.
use Rattle.std.specs.Prelude.{List, [], ◌∷◌, Bool, false, cond, not, ◌||◌, ℕ, ◌*◌, eqb, ltb, length, None, Some}
use Rattle.shape.specs.Counts.{ring_length}
use Rattle.turns.specs.Plan.{keeps_rule}
use Rattle.description.specs.Records.{array_of}
use Rattle.description.specs.Parts.{parts_of}
use Rattle.description.specs.Sizes.{sizes_of}
use Rattle.description.specs.Refusals.{refusal_of}
use Rattle.description.specs.Part.{Part}
use Rattle.array.specs.Stages.{stage_count}
use Rattle.array.specs.Lent.{Lent}

-- 6: n above 1024
unfoldable pub refused6 : ℕ → Bool
refused6 n = ltb 1024 n

abbrev differs : {A : Type 0} → List A → ℕ → Bool
differs l n = not (eqb (length l) n)

-- 7: a buffer's length differs from width x n or from its size; scratch shorter than 16 x W x n
unfoldable pub refused7 : Lent → ℕ → Bool
refused7 b n =
    let a = array_of b.description in
    let s = sizes_of b.description in
    differs b.weights s.weights || differs b.histories s.histories || differs b.positions s.positions
    || differs b.input (a.input * n) || differs b.condition (a.condition * n) || differs b.head_in (a.head_in * n)
    || differs b.head_out (a.head_size * n) || differs b.array_out (a.channels * n)
    || ltb (length b.scratch) (16 * s.widest * n)

-- a position is not below the ring length of its part
unfoldable pub beyond : List Part → List ℕ → Bool
beyond [] places = false
beyond (None ∷ ps) places = beyond ps places
beyond (Some sh ∷ ps) [] = false
beyond (Some sh ∷ ps) (place ∷ places) = not (ltb place (ring_length sh)) || beyond ps places

-- 8: a position is not below its ring length
unfoldable pub refused8 : Lent → Bool
refused8 b = beyond (parts_of b.description) b.positions

-- 9: the plan breaks its rule
unfoldable pub refused9 : Lent → ℕ → List ℕ → Bool
refused9 b n plan = not (keeps_rule (stage_count b.description) n plan)

-- a refusal, or else the number of a test that holds
abbrev or_else : ℕ → Bool → ℕ → ℕ
or_else refusal test number = cond (eqb refusal 0) (cond test number 0) refusal

-- a single column: 1-5, 7, 8
unfoldable pub column_refusal : Lent → ℕ
column_refusal b = or_else (or_else (refusal_of b.description) (refused7 b 1) 7) (refused8 b) 8

-- a block: 1-8
unfoldable pub block_refusal : Lent → ℕ → ℕ
block_refusal b n = or_else (or_else (or_else (refusal_of b.description) (refused6 n) 6) (refused7 b n) 7) (refused8 b) 8

-- a planned block: 1-9
unfoldable pub planned_refusal : Lent → ℕ → List ℕ → ℕ
planned_refusal b n plan = or_else (block_refusal b n) (refused9 b n plan) 9
