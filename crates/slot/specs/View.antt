-- What belongs to one part of the description: its weights, and what it remembers. Document 01, 'Description' (order of convolutions).
use Rattle.std.specs.Prelude.{List, [], ℕ, get_or, Float, None, Some}
use Rattle.lists.specs.Part.{part}
use Rattle.ring.specs.Memory.{Memory}
use Rattle.shape.specs.Counts.{history_count}
use Rattle.description.specs.Sizes.{weights_of}
use Rattle.description.specs.Part.{Part}
use Rattle.description.specs.declared.places.Place.{Place}

-- its part of all weights
unfoldable pub weights_in : Part → Place → List Float → List Float
weights_in p at weights = part at.weights (weights_of p) weights

-- its part of the histories, and its position; an absent part remembers nothing
unfoldable pub memory_in : Part → Place → List Float → List ℕ → Memory
memory_in None at histories positions = record { history = []; place = 0 }
memory_in (Some sh) at histories positions =
    record { history = part at.histories (history_count sh) histories; place = get_or positions at.positions 0 }
