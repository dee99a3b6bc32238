-- With layer1x1 three steps, joined by residual-is; without it none, bare-residual.
use Rattle.description.specs.Parts.{site_width}
use Rattle.layer.proofs.Held.{ready_on}
use Rattle.layer.proofs.Past.{in_place}
use Rattle.layer.proofs.Whole.{behind_layer1x1, room13, bare_residual, residual_is}
use mathlib.Core.Path.{refl}
use Rattle.layer.proofs.Layer.residual.Goals as goal

pub returns-then-self-eq0-clause-piece : goal.returns-then-self-eq0-clause-piece
returns-then-self-eq0-clause-piece c = bare_residual _ c.requires.layer_fits c.if-self-eq0.true

pub modulate-requires-clause-ready : goal.modulate-requires-clause-ready
modulate-requires-clause-ready c = ready_on c.requires c.convolve.ensures.past.leaves

pub modulate-requires-clause-behind : goal.modulate-requires-clause-behind
unfolding site_width
modulate-requires-clause-behind c = (behind_layer1x1 _ _ c.if-self-eq0.false, room13 _, refl)

pub returns-clause-piece : goal.returns-clause-piece
returns-clause-piece c = residual_is _ _ _ _ c.requires.layer_fits c.if-self-eq0.false c.convolve.ensures.past (in_place c.modulate.ensures.past) c.add_to.ensures
