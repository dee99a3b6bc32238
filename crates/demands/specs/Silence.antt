-- What the stages remember after a reset. Document 01, 'The recurrence': histories +0, positions ring length - 1.
use Rattle.std.specs.Prelude.{List, [], ℕ, ◌+◌, ◌-◌, replicate, None, Some}
use Rattle.std.specs.Float.{binary32}
use Rattle.std.specs.Float.Ieee.{of_bits}
use Rattle.lists.specs.Tab.{tab}
use Rattle.ring.specs.Memory.{Memory}
use Rattle.shape.specs.Counts.{ring_length, history_count}
use Rattle.description.specs.Part.{Part}
use Rattle.array.specs.Stages.{part_at, first_part, part_count}

-- a part that has heard nothing; an absent part remembers nothing
unfoldable pub silent : Part → Memory
silent None = record { history = []; place = 0 }
silent (Some sh) = record { history = replicate (history_count sh) (of_bits binary32 0); place = ring_length sh - 1 }

-- stage k, all of whose parts have heard nothing
unfoldable pub silence : List ℕ → ℕ → List Memory
silence d k = tab (part_count d k) (λ j. silent (part_at d (first_part k + j)))
