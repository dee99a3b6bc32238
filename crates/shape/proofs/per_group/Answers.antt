use native.Mathlib.Nat.{div-one}
use mathlib.Core.Path.{sym}
use Rattle.shape.proofs.per_group.Goals as goal

pub returns-then-groups-eq1 : goal.returns-then-groups-eq1
returns-then-groups-eq1 c = rw c.if-groups-eq1.true (sym (div-one _))
