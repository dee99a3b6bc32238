-- Four steps, each of which asks what the one before leaves; gate-is joins them.
use Rattle.description.specs.Parts.{mid, site_width}
use Rattle.layer.proofs.Past.{in_place}
use Rattle.layer.proofs.Whole.{fits_on, behind, room6, room7, add_leaves, gating_leaves, gating_fits, gate_is}
use mathlib.Core.Path.{refl}
use Prim.Native.Nat.{◌*◌}
use native.Mathlib.Omega.{arith}
use Rattle.layer.proofs.Layer.gate.Goals as goal

pub modulate-requires-clause-behind : goal.modulate-requires-clause-behind
unfolding site_width
modulate-requires-clause-behind c = (behind 4 (omega arith), room7 _, c.doubled-mid.ensures)

pub gating-requires : goal.gating-requires
gating-requires c =
    let f = c.requires.layer_fits in
    let sum = rw c.doubled-mid.ensures at c.add_to.ensures in
    let f1 = fits_on f (add_leaves _ _ f (7 * c.args.self.now.size) (mid c.args.self.now.own.now) _ f.mid_in sum) in
    gating_fits (fits_on f1 (in_place c.modulate.ensures.past).leaves)

pub modulate-requires-2-clause-ready : goal.modulate-requires-2-clause-ready
modulate-requires-2-clause-ready c =
    let f = c.requires.layer_fits in
    let sum = rw c.doubled-mid.ensures at c.add_to.ensures in
    let f1 = fits_on f (add_leaves _ _ f (7 * c.args.self.now.size) (mid c.args.self.now.own.now) _ f.mid_in sum) in
    let f2 = fits_on f1 (in_place c.modulate.ensures.past).leaves in
    record { layer_fits = fits_on f2 (gating_leaves _ _ f2 c.gating.ensures); slots_of = c.requires.slots_of }

pub modulate-requires-2-clause-behind : goal.modulate-requires-2-clause-behind
unfolding site_width
modulate-requires-2-clause-behind c = (behind 5 (omega arith), room6 _, refl)

pub returns-clause-piece : goal.returns-clause-piece
returns-clause-piece c =
    let sum = rw c.doubled-mid.ensures at c.add_to.ensures in
    gate_is _ _ _ _ _ c.requires.layer_fits sum (in_place c.modulate.ensures.past) c.gating.ensures (in_place c.modulate-2.ensures.past)
