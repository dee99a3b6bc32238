-- With head1x1 three steps, joined by head-is; without it one, bare-head.
use Rattle.layer.proofs.Held.{ready_on}
use Rattle.layer.proofs.Past.{in_place}
use Rattle.layer.proofs.Whole.{behind_head1x1, last_is, room12, bare_head, head_is}
use Rattle.layer.proofs.Layer.head.Goals as goal

pub returns-then-width-eq0-clause-piece : goal.returns-then-width-eq0-clause-piece
returns-then-width-eq0-clause-piece c = bare_head _ _ c.requires.layer_fits c.if-width-eq0.true c.add_to.ensures

pub modulate-requires-clause-ready : goal.modulate-requires-clause-ready
modulate-requires-clause-ready c = ready_on c.requires c.convolve.ensures.past.leaves

pub modulate-requires-clause-behind : goal.modulate-requires-clause-behind
modulate-requires-clause-behind c = (behind_head1x1 _ _ c.if-width-eq0.false, room12 _, last_is _ _ c.if-width-eq0.false)

pub returns-clause-piece : goal.returns-clause-piece
returns-clause-piece c = head_is _ _ _ _ c.requires.layer_fits c.if-width-eq0.false c.convolve.ensures.past (in_place c.modulate.ensures.past) c.add_to-2.ensures
