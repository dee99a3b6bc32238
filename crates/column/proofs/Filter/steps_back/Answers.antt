-- The product is bounded by the ring's reach.
use mathlib.Core.Path.{refl}
use Rattle.column.specs.Recurrence.{steps_back}
use Rattle.column.proofs.Filter.steps_back.Goals as goal

pub returns : goal.returns
unfolding steps_back
returns c = refl
