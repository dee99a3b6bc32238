-- `past` adds a part's counts; none wraps, since the place is low and the part in range.
use native.Mathlib.Nat.{add-zero}
use native.Mathlib.Omega.{arith}
use Rattle.description.specs.Sizes.{histories_of, past_of, positions_of, weights_of}
use Rattle.shape.proofs.Bounds.{history_count_le, weight_le}
use Rattle.description.proofs.places.Place.past.Goals as goal

pub weight_count-requires : goal.weight_count-requires
weight_count-requires c = c.requires.fits.shape _ c.in-Some.is

pub overflow_add-result : goal.overflow_add-result
overflow_add-result c =
    let pre = c.requires in
    record { fits = omega (arith, weight_le (pre.fits.shape _ c.in-Some.is), c.weight_count.ensures, pre.low.weights) }

pub history_count-requires : goal.history_count-requires
history_count-requires c = c.requires.fits.shape _ c.in-Some.is

pub overflow_add-result-in-Some : goal.overflow_add-result-in-Some
overflow_add-result-in-Some c =
    let pre = c.requires in
    record { fits = omega (arith, history_count_le (pre.fits.shape _ c.in-Some.is), c.history_count.ensures, pre.low.histories) }

pub overflow_add-result-in-Some-2 : goal.overflow_add-result-in-Some-2
overflow_add-result-in-Some-2 c = record { fits = omega (arith, c.requires.low.positions) }

pub returns-in-None : goal.returns-in-None
unfolding past_of weights_of histories_of positions_of
returns-in-None c =
    let args = c.args in
    rw (c.in-None.is, add-zero args.self.weights, add-zero args.self.histories, add-zero args.self.positions)

pub returns-in-Some : goal.returns-in-Some
unfolding past_of weights_of histories_of positions_of
returns-in-Some c = rw (c.in-Some.is, c.weight_count.ensures, c.history_count.ensures)
