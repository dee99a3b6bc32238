-- `ring::Ring::back` meets its contract. Within the places passed so far, or round the ring.
use mathlib.Core.Path.{sym}
use Rattle.ring.proofs.Places.{back_in, back_round}
use Rattle.ring.proofs.Ring.back.Goals as goal

pub returns-then-steps-at : goal.returns-then-steps-at
returns-then-steps-at c = sym (back_in _ _ _ c.if-steps-at.true)

pub returns-else-steps-at : goal.returns-else-steps-at
returns-else-steps-at c = sym (back_round _ _ _ c.if-steps-at.false)
