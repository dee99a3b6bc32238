-- By the two cases of the flag.
use Rattle.film.specs.Modulated.{modulation_of}
use Rattle.film.proofs.Modulation.read.Goals as goal
use Rattle.film.proofs.Modulation.read.Goals.{then-shifted, else-shifted}

pub returns : goal.returns
unfolding modulation_of
returns c = elim c.if-shifted.branch [ then-shifted w ↦ rw (w.shift-is, w.if-shifted.true) | else-shifted w ↦ rw (w.shift-is, w.if-shifted.false) ]
