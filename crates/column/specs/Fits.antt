-- What the sizes of a convolution's parts have to be. Numbers of history and weights are lengths.
use Rattle.std.specs.Prelude.{◌≡◌, ℕ, ◌+◌, ◌*◌, ◌≤◌, ◌<◌, length}
use Rattle.ring.specs.declared.Memory.{Memory}
use Rattle.shape.specs.declared.Shape.{Shape}
use Rattle.shape.specs.Counts.{InRange, ring_length, outputs_per_group, weight_count, history_count}
use Rattle.shape.specs.Groups.{Divided}
use Rattle.column.specs.declared.Filter.{Filter}

-- a shape, its ring, and exactly its own parts of the histories and the weights
pub record PartsFit (sh : Shape) (at len nhistory nweights : ℕ) : Type 0 where
  pub range : InRange sh
  pub divided : Divided sh
  pub place_in : at < len
  pub ring_is : len ≡ ring_length sh
  pub history_is : nhistory ≡ history_count sh
  pub weights_is : nweights ≡ weight_count sh

-- a convolution and its memory
abbrev pub FilterFits : Filter → Memory → Type 0
FilterFits f m = PartsFit f.shape m.ring.at m.ring.len (length m.history.now) (length f.weights.now)

-- n outputs of group g from `first` on
pub record GroupFits (sh : Shape) (g first n : ℕ) : Type 0 where
  pub group_in : g < sh.groups
  pub low : g * outputs_per_group sh ≤ first
  pub high : first + n ≤ g * outputs_per_group sh + outputs_per_group sh
