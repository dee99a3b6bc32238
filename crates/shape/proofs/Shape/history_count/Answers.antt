use Rattle.shape.specs.Counts.{history_count}
use Rattle.shape.proofs.Bounds.{history_le}
use mathlib.Core.Path.{ap}
use Prim.Native.Nat.{ℕ, ◌*◌}
use native.Mathlib.Omega.{arith}
use Rattle.shape.proofs.Shape.history_count.Goals as goal

pub overflow_mul-result : goal.overflow_mul-result
overflow_mul-result c = record { fits = rw c.ring_length.ensures (omega (arith, history_le c.requires)) }

pub returns : goal.returns
unfolding history_count
returns c = ap (λ (n : ℕ). c.args.self.ins * n) c.ring_length.ensures
