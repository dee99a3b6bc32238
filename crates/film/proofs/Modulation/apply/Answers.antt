-- By the two cases of the shift.
use Rattle.film.specs.Modulated.{modulated}
use Rattle.film.proofs.Modulation.apply.Goals as goal

pub returns-in-Some : goal.returns-in-Some
unfolding modulated
returns-in-Some c = rw c.in-Some.is

pub returns-in-None : goal.returns-in-None
unfolding modulated
returns-in-None c = rw c.in-None.is
