use Rattle.shape.specs.Counts.{ring_length}
use Rattle.shape.proofs.Bounds.{reach_le}
use mathlib.Core.Path.{refl}
use native.Mathlib.Omega.{arith}
use Rattle.shape.proofs.Shape.ring_length.Goals as goal

pub overflow_mul-result : goal.overflow_mul-result
overflow_mul-result c = record { fits = omega (arith, reach_le c.requires) }

pub overflow_add-result : goal.overflow_add-result
overflow_add-result c = record { fits = omega (arith, reach_le c.requires) }

pub returns : goal.returns
unfolding ring_length
returns c = refl
