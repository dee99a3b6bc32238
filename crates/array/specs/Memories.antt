-- What the stages remember, as the histories and positions that are lent hold it. Document 01, 'Description' (order of convolutions).
use Rattle.std.specs.Prelude.{List, [], ◌∷◌, ◌++◌, ℕ, ◌+◌, Float, None, Some}
use Rattle.lists.specs.Tab.{tab}
use Rattle.ring.specs.Memory.{Memory}
use Rattle.description.specs.Parts.{each_layer, parts_of}
use Rattle.description.specs.Sizes.{place_at}
use Rattle.description.specs.Part.{Part}
use Rattle.slot.specs.View.{memory_in}
use Rattle.array.specs.Stages.{part_at, first_part, part_count, stage_count}

-- what part number i remembers
unfoldable pub memory_of_part : List ℕ → List Float → List ℕ → ℕ → Memory
memory_of_part d histories positions i = memory_in (part_at d i) (place_at d i) histories positions

-- what stage k remembers: the memories of its parts
unfoldable pub memories_of : List ℕ → List Float → List ℕ → ℕ → List Memory
memories_of d histories positions k = tab (part_count d k) (λ j. memory_of_part d histories positions (first_part k + j))

-- the memories of all parts, stage by stage
unfoldable pub all_memories : List ℕ → (ℕ → List Memory) → List Memory
all_memories d st = each_layer st (stage_count d)

-- histories, in the order of the parts, end to end
unfoldable pub histories_joined : List Memory → List Float
histories_joined [] = []
histories_joined (s ∷ ss) = s.history ++ histories_joined ss

-- positions: one for each part that is there
unfoldable pub positions_joined : List Part → List Memory → List ℕ
positions_joined [] ss = []
positions_joined (p ∷ ps) [] = []
positions_joined (None ∷ ps) (s ∷ ss) = positions_joined ps ss
positions_joined (Some sh ∷ ps) (s ∷ ss) = s.place ∷ positions_joined ps ss

unfoldable pub histories_from : List ℕ → (ℕ → List Memory) → List Float
histories_from d st = histories_joined (all_memories d st)

unfoldable pub positions_from : List ℕ → (ℕ → List Memory) → List ℕ
positions_from d st = positions_joined (parts_of d) (all_memories d st)
