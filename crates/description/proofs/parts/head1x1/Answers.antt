-- `head1x1` is absent exactly where its width is 0.
use borrow.Author.Tests.{ne_eqb, eq-eqb}
use Rattle.description.specs.Parts.{head1x1_of, unless0}
use Rattle.description.proofs.parts.head1x1.Goals as goal

pub returns-then-width-eq0 : goal.returns-then-width-eq0
unfolding head1x1_of unless0
returns-then-width-eq0 c = rw (eq-eqb _ _ c.if-width-eq0.true)

pub returns : goal.returns
unfolding head1x1_of unless0
returns c = rw (ne_eqb _ _ c.if-width-eq0.false)
