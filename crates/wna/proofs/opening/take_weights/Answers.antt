-- Both ways out (Taken).
use Rattle.wna.proofs.Taken.{weights_cut, weights_inside}
use Rattle.wna.proofs.opening.take_weights.Goals as goal

pub returns-then-bytes-weights : goal.returns-then-bytes-weights
returns-then-bytes-weights c = weights_cut c.args.weights.now c.args.bytes.now c.if-bytes-weights.true

pub returns : goal.returns
returns c = weights_inside c.args.weights.now c.args.bytes.now c.if-bytes-weights.false c.unpack_floats.ensures
