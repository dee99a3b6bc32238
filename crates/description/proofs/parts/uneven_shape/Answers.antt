-- `uneven_shape`: one group always divides; other groups are tried.
use mathlib.Core.Path.{refl}
use native.Mathlib.Nat.{mod-one}
use Rattle.description.specs.Parts.{uneven_of}
use Rattle.description.proofs.parts.uneven_shape.Goals as goal

pub returns-then-groups-eq1 : goal.returns-then-groups-eq1
unfolding uneven_of
returns-then-groups-eq1 c = rw (c.if-groups-eq1.true, mod-one c.args.sh.ins, mod-one c.args.sh.outs)

pub returns : goal.returns
unfolding uneven_of
returns c = refl
