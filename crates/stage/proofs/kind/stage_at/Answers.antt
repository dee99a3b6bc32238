-- Each test against the definition's (Numbered).
use Rattle.stage.proofs.Numbered.{first_of, layer_of, last_of}
use Rattle.stage.proofs.kind.stage_at.Goals as goal

pub returns-then-k-eq0 : goal.returns-then-k-eq0
returns-then-k-eq0 c = first_of c.args.k c.args.layers c.if-k-eq0.true

pub returns-then-l-layers : goal.returns-then-l-layers
returns-then-l-layers c = layer_of c.args.k c.args.layers c.if-k-eq0.false c.if-l-layers.true

pub returns : goal.returns
returns c = last_of c.args.k c.args.layers c.if-k-eq0.false c.if-l-layers.false
