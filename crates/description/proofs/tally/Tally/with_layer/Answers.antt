-- `with_layer` adds a layer; no sum wraps, since the tally is low and the layer in range.
use native.Mathlib.Omega.{arith}
use Rattle.description.proofs.Passing.{layer_in, reach_le}
use Rattle.description.proofs.tally.Tally.with_layer.Goals as goal

pub overflow_mul-result : goal.overflow_mul-result
overflow_mul-result c = record { fits = omega (arith, reach_le c.requires.layer_ranges) }

pub overflow_add-result : goal.overflow_add-result
overflow_add-result c =
    let pre = c.requires in
    record { fits = omega (arith, reach_le pre.layer_ranges, pre.low_tally.depth) }

pub returns : goal.returns
returns c =
    let args = c.args in
    layer_in args.self args.a args.r c.count-counted.ensures c.unmatched.ensures (rw c.layer_widest.ensures at c.max-widest.ensures)
