-- A stride of 1 is next to each other.
use mathlib.Core.Path.{◌∙◌}
use Prim.Native.Nat.{◌-◌}
use native.Mathlib.Omega.{arith}
use Rattle.sums.proofs.SideBySide.{cells}
use Rattle.sums.proofs.lanes.put.Goals as goal

pub save-requires : goal.save-requires
save-requires g c = omega (arith, rw c.if-stride-eq1.true at (c.requires.1 (g.row.L - 1) (omega (arith, c.requires.0))))

pub returns-then-stride-eq1 : goal.returns-then-stride-eq1
returns-then-stride-eq1 g c = rw c.if-stride-eq1.true (c.save.ensures ∙ cells _ _ _ _)
