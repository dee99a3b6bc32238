-- What a pass over parts and their positions has found: for the contracts of the functions inside `places_beyond`, whose own promise does not rest on
-- it.
use Rattle.std.specs.Prelude.{◌||◌, List, ℕ, ◌+◌, drop}
use Rattle.description.specs.Sizes.{positions_of, total}
use Rattle.description.specs.Part.{Part}
use Rattle.array.specs.Refusals.{beyond}
use Rattle.admit.specs.declared.places.Pass.{Pass}

-- more parts, whose positions start where the pass stands
unfoldable pub passed : List ℕ → Pass → List Part → Pass
passed positions p ps = record { at = p.at + total positions_of ps; beyond = p.beyond || beyond ps (drop p.at positions) }
