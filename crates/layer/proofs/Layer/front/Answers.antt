-- Three steps, each of which asks what the one before leaves; front-is joins them.
use Rattle.description.specs.Parts.{site_width}
use Rattle.layer.proofs.Held.{ready_on}
use Rattle.layer.proofs.Past.{in_place}
use Rattle.layer.proofs.Whole.{result_le, behind, room5, room7, front_is}
use mathlib.Core.Path.{refl}
use Prim.Native.Nat.{◌*◌}
use native.Mathlib.Omega.{arith}
use Rattle.layer.proofs.Layer.front.Goals as goal

pub modulate-from-requires-clause-behind : goal.modulate-from-requires-clause-behind
unfolding site_width
modulate-from-requires-clause-behind c = (behind 0 (omega arith), room5 _, refl)

pub convolve-requires-clause-ready : goal.convolve-requires-clause-ready
convolve-requires-clause-ready c = ready_on c.requires c.modulate-from.ensures.past.leaves

pub convolve-requires-clause-k_bound : goal.convolve-requires-clause-k_bound
convolve-requires-clause-k_bound c =
    let n = c.args.self.now.size in
    let le = result_le _ (5 * n) (2 * n) _ c.modulate-from.ensures.past.there (omega arith) in
    (omega arith, room7 _, omega (arith, le), omega (arith, le))

pub modulate-requires-clause-ready : goal.modulate-requires-clause-ready
modulate-requires-clause-ready c = ready_on (ready_on {b' = c.modulate-from.new.bench} c.requires c.modulate-from.ensures.past.leaves) c.convolve.ensures.past.leaves

pub modulate-requires-clause-behind : goal.modulate-requires-clause-behind
unfolding site_width
modulate-requires-clause-behind c = (behind 1 (omega arith), room7 _, c.doubled.ensures)

pub returns-clause-piece : goal.returns-clause-piece
returns-clause-piece c = front_is c.modulate-from.ensures.past c.convolve.ensures.past (in_place c.modulate.ensures.past)
