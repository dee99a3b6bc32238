use Rattle.shape.specs.Counts.{kernel_count}
use Rattle.shape.proofs.Bounds.{sides_le, product_le}
use native.Mathlib.Omega.{arith}
use Rattle.shape.proofs.Shape.kernel_count.Goals as goal

pub overflow_mul-self : goal.overflow_mul-self
overflow_mul-self c = record { fits = omega (arith, sides_le c.requires) }

pub overflow_mul-self-2 : goal.overflow_mul-self-2
overflow_mul-self-2 c = record { fits = omega (arith, product_le c.requires) }

pub returns : goal.returns
unfolding kernel_count
returns c = c.per_group.ensures
