-- The parts that the code cuts are those of the place, and the convolution's contract on them is the record Played (Laws).
use Rattle.shape.proofs.Bounds.{ring_le}
use Rattle.slot.proofs.Laws.{conv_fits, place_in, played}
use mathlib.Core.Path.{refl}
use native.Mathlib.Omega.{arith}
use Rattle.slot.proofs.Bench.play.Goals as goal

pub convolve-next-requires : goal.convolve-next-requires
convolve-next-requires c = conv_fits _ _ _ _ _ _ _ _ _ c.args.self.now.histories.now c.args.weights.now _ _ _ c.history_count.ensures c.weight_count.ensures c.ring_length.ensures c.requires

pub overflow_cast-self : goal.overflow_cast-self
overflow_cast-self c = record { fits = omega (arith, place_in _ _ _ _ _ _ _ _ _ c.args.self.now.histories.now c.args.weights.now _ _ _ c.history_count.ensures c.weight_count.ensures c.ring_length.ensures c.requires _ _ _ _ c.convolve-next.ensures, ring_le c.requires.range) }

pub returns-clause-played : goal.returns-clause-played
returns-clause-played c = played _ _ _ _ _ _ _ _ _ c.args.self.now.histories.now c.args.weights.now _ _ _ c.history_count.ensures c.weight_count.ensures c.ring_length.ensures c.requires _ _ _ _ c.convolve-next.ensures c.args.self.now.positions.now refl refl
