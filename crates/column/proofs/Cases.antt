-- Worked cases of the definitions: case A's convolution, a grouped one, and the sign of a sum without a bias. Assumes nothing.
use mathlib.Core.Path.{◌≡◌, refl}
use mathlib.Core.Bool.{true, false}
use mathlib.Core.List.{List, [], ◌∷◌, map}
use Prim.Native.Nat.{ℕ, suc}
use lib.Ieee.{Float, binary32, of_bits, to_bits, add, mul}
use Rattle.lists.specs.Tab.{at, tab, fill}
use Rattle.single.specs.Sum.{sum_from}
use Rattle.ring.specs.Place.{next_place, place_back}
use Rattle.ring.specs.Memory.{Memory, push, past, after}
use Rattle.shape.specs.declared.Shape.{Shape}
use Rattle.shape.specs.Counts.{ring_length, inputs_per_group, outputs_per_group, kernel_count}
use Rattle.column.specs.Recurrence.{start_of, steps_back, channel_of, weight_index, tap_from, taps_from, output, remembered}

abbrev floats : List ℕ → List Float
floats l = map (of_bits binary32) l

-- from a reset
abbrev reset : ℕ → ℕ → Memory
reset n place = record { history = tab n (λ i. of_bits binary32 0); place = place }

-- case A: kernel 2, dilation 2, weights 1 and 0.5, bias -1; the columns 2, 4, 6, -8 give 0, 1, 4, -1
abbrev shape_a : Shape
shape_a = record { ins = 1; outs = 1; kernel = 2; dilation = 2; groups = 1; biased = true }

abbrev x_a : ℕ → ℕ → Float
x_a t c = at (floats (0x4000_0000 ∷ 0x4080_0000 ∷ 0x40c0_0000 ∷ 0xc100_0000 ∷ [])) t

outputs_a : map (λ t. to_bits binary32 (output shape_a (floats (0x3f80_0000 ∷ 0x3f00_0000 ∷ 0xbf80_0000 ∷ [])) (remembered shape_a x_a (reset 3 2) (suc t)) 0)) (0 ∷ 1 ∷ 2 ∷ 3 ∷ [])
    ≡ 0 ∷ 0x3f80_0000 ∷ 0x4080_0000 ∷ 0xbf80_0000 ∷ []
unfolding output taps_from tap_from start_of steps_back channel_of weight_index kernel_count inputs_per_group outputs_per_group ring_length sum_from past after push next_place place_back fill tab add mul of_bits to_bits
outputs_a = refl

-- and leave the history -8, 4, 6 with the place 0
history_a : map (to_bits binary32) (remembered shape_a x_a (reset 3 2) 4).history ≡ 0xc100_0000 ∷ 0x4080_0000 ∷ 0x40c0_0000 ∷ []
unfolding ring_length after push next_place fill tab of_bits to_bits
history_a = refl

place_a : (remembered shape_a x_a (reset 3 2) 4).place ≡ 0
unfolding ring_length after push next_place
place_a = refl

-- two groups of two inputs: 1 x 1 + 2 x 2 and 3 x 3 + 4 x 4
abbrev shape_g : Shape
shape_g = record { ins = 4; outs = 2; kernel = 1; dilation = 1; groups = 2; biased = false }

abbrev numbers : List Float
numbers = floats (0x3f80_0000 ∷ 0x4000_0000 ∷ 0x4040_0000 ∷ 0x4080_0000 ∷ [])

outputs_g : map (λ o. to_bits binary32 (output shape_g numbers (remembered shape_g (λ t c. at numbers c) (reset 4 0) 1) o)) (0 ∷ 1 ∷ [])
    ≡ 0x40a0_0000 ∷ 0x41c8_0000 ∷ []
unfolding output taps_from tap_from start_of steps_back channel_of weight_index kernel_count inputs_per_group outputs_per_group ring_length sum_from past after push next_place place_back fill tab add mul of_bits to_bits
outputs_g = refl

-- no bias, weight 1, input -0 gives +0
abbrev shape_z : Shape
shape_z = record { ins = 1; outs = 1; kernel = 1; dilation = 1; groups = 1; biased = false }

output_z : to_bits binary32 (output shape_z (floats (0x3f80_0000 ∷ [])) (remembered shape_z (λ t c. of_bits binary32 0x8000_0000) (reset 1 0) 1) 0) ≡ 0
unfolding output taps_from tap_from start_of steps_back channel_of weight_index kernel_count inputs_per_group outputs_per_group ring_length sum_from past after push next_place place_back fill tab add mul of_bits to_bits
output_z = refl
