-- Worked cases of the definitions. Assumes nothing.
use mathlib.Core.Path.{◌≡◌, refl}
use mathlib.Core.List.{[], ◌∷◌, map}
use Prim.Native.Nat.{ℕ, ◌+◌, ◌*◌}
use lib.Ieee.{Float, binary32, of_bits, to_bits}
use Rattle.lists.specs.Tab.{tab, fill}
use Rattle.ring.specs.Place.{next_place, place_back}
use Rattle.ring.specs.Memory.{Memory, push, past, after}

-- column t of a signal of two channels is t + 1 and 16 + t + 1, as patterns
abbrev x : ℕ → ℕ → Float
x t c = of_bits binary32 (16 * c + t + 1)

-- a reset ring of three columns: histories +0, the place ring length - 1
abbrev reset : Memory
reset = record { history = tab 6 (λ i. of_bits binary32 0); place = 2 }

-- four columns pushed: the fourth came back over the first, at place 0
stored : map (to_bits binary32) (after 2 3 x reset 4).history ≡ 4 ∷ 20 ∷ 2 ∷ 18 ∷ 3 ∷ 19 ∷ []
unfolding after push next_place fill tab of_bits to_bits
stored = refl

place_after : (after 2 3 x reset 4).place ≡ 0
unfolding after push next_place
place_after = refl

-- channel 1 of the columns 0, 1 and 2 back
seen_back : map (λ b. to_bits binary32 (past 2 3 (after 2 3 x reset 4) 1 b)) (0 ∷ 1 ∷ 2 ∷ []) ≡ 20 ∷ 19 ∷ 18 ∷ []
unfolding past after push next_place place_back fill tab of_bits to_bits
seen_back = refl
