-- `last_width` is the width of site 7: by whether head1x1 is there.
use borrow.Author.Tests.{ne_eqb, eq-eqb}
use Rattle.description.specs.Parts.{site_width}
use Rattle.description.proofs.parts.last_width.Goals as goal

pub returns-then-width-eq0 : goal.returns-then-width-eq0
unfolding site_width
returns-then-width-eq0 c = rw (eq-eqb _ _ c.if-width-eq0.true)

pub returns : goal.returns
unfolding site_width
returns c = rw (ne_eqb _ _ c.if-width-eq0.false)
