-- `layer1x1` is absent exactly where its groups are 0.
use borrow.Author.Tests.{ne_eqb, eq-eqb}
use Rattle.description.specs.Parts.{layer1x1_of, unless0}
use Rattle.description.proofs.parts.layer1x1.Goals as goal

pub returns-then-groups-eq0 : goal.returns-then-groups-eq0
unfolding layer1x1_of unless0
returns-then-groups-eq0 c = rw (eq-eqb _ _ c.if-groups-eq0.true)

pub returns : goal.returns
unfolding layer1x1_of unless0
returns c = rw (ne_eqb _ _ c.if-groups-eq0.false)
