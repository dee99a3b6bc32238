-- An answer with sizes is one of an open file (Sized).
use Rattle.player.proofs.Sized.{opened_by}
use Rattle.player.proofs.with_header.Goals as goal

pub invariant_of-opening-clause-opened : goal.invariant_of-opening-clause-opened
invariant_of-opening-clause-opened g c = opened_by c.take_description.ensures c.in-Ok.is
