-- Histories and positions have room, and after the reset the first block can be played (Sized).
use Rattle.std.proofs.Common.{arith}
use Rattle.std.proofs.Math.ListN.{length-replicate, length-take}
use Rattle.refusal.proofs.PassedOn.{accepted}
use Rattle.player.proofs.Sized.{long, parts-most, ready_first, reset_done}
use Rattle.player.proofs.with_weights.Goals as goal

pub slice_bounds-positions-end : goal.slice_bounds-positions-end
slice_bounds-positions-end g c =
    let o = c.args.opening in
    let most = parts-most o.description.now o.sizes o.header.block o.opened in
    omega (arith, most)

pub slice_bounds-positions-end-2 : goal.slice_bounds-positions-end-2
slice_bounds-positions-end-2 g c =
    let o = c.args.opening in
    let most = parts-most o.description.now o.sizes o.header.block o.opened in
    simp (length-take, length-replicate) (omega (arith, most))

pub unwrap-requires : goal.unwrap-requires
unwrap-requires g c =
    let o = c.args.opening in
    let most = parts-most o.description.now o.sizes o.header.block o.opened in
    accepted c.reset.result (reset_done o.description.now o.sizes o.header.block o.opened
    (simp (length-take, length-replicate) (omega (arith, o.opened.histories))) (simp (length-take, length-replicate) (omega (arith, most))) c.reset.ensures)

pub read_array-requires : goal.read_array-requires
read_array-requires g c = let o = c.args.opening in long o.description.now o.sizes o.header.block o.opened

pub stream-requires-clause-ready : goal.stream-requires-clause-ready
stream-requires-clause-ready g c =
    let o = c.args.opening in
    let most = parts-most o.description.now o.sizes o.header.block o.opened in
    ready_first o.description.now o.sizes o.header.block o.opened c.read_array.ensures o.low.largest c.requires
    (simp (length-take, length-replicate) (omega (arith, o.opened.histories))) (simp (length-take, length-replicate) (omega (arith, most))) c.reset.ensures (omega arith) (omega arith)
