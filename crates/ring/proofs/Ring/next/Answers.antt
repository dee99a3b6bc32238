-- `ring::Ring::next` meets its contract. The place moves on by one; past the last place it is zero.
use Rattle.ring.proofs.Places.{next_on, next_zero}
use Rattle.ring.proofs.Ring.next.Goals as goal

pub returns-then-at-len : goal.returns-then-at-len
returns-then-at-len c = rw (next_on _ _ c.if-at-len.true)

pub returns-else-at-len : goal.returns-else-at-len
returns-else-at-len c = rw (next_zero _ _ c.if-at-len.false)
