-- `unmatched` is the test of the definition, by whether head1x1 is there.
use borrow.Author.Tests.{ne_eqb, eq-eqb}
use Rattle.description.specs.Refusals.{head_width, unmatched_of}
use Rattle.description.proofs.tally.unmatched.Goals as goal

pub returns-then-width-eq0 : goal.returns-then-width-eq0
unfolding unmatched_of head_width
returns-then-width-eq0 c = rw (eq-eqb _ _ c.if-width-eq0.true)

pub returns : goal.returns
unfolding unmatched_of head_width
returns c = rw (ne_eqb _ _ c.if-width-eq0.false)
