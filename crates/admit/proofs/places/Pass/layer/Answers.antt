-- `layer` passes a layer's slots. The loop's invariant: the first k of them are passed (Passing).
use mathlib.Core.Path.{ap, subst, sym}
use native.Mathlib.Omega.{arith}
use borrow.Author.Rules.{rules}
use Rattle.description.proofs.Slots.{slot_fits}
use Rattle.description.specs.Parts.{part_of, slots_of}
use Rattle.description.specs.Ranges.{Fits}
use Rattle.description.specs.Sizes.{positions_of}
use Rattle.admit.proofs.Passing.{part_more, part_room, parts_end, passed_none}
use Rattle.admit.proofs.places.Pass.layer.Goals as goal

pub loop-k-init : goal.loop-k-init
loop-k-init c = (search rules, c.requires.array_ranges, c.requires.layer_ranges, c.requires.r_in_bounds, passed_none _ _)

pub slot-part-requires : goal.slot-part-requires
slot-part-requires c = record { array_ranges = c.loop-k.invariant.1; layer_ranges = c.loop-k.invariant.2; k_bound = search rules }

pub part-pass-requires : goal.part-pass-requires
unfolding part_of
part-pass-requires c =
    let args = c.args in
    let l = c.loop-k in
    record { fits = subst Fits (sym c.slot-part.ensures) (slot_fits l.invariant.1 l.invariant.2 l.k); part_in_bounds = omega (arith, ap positions_of c.slot-part.ensures, part_room args.positions.now args.self (slots_of args.a args.r) l.k l.invariant.4 l.invariant.3) }

pub loop-k-preserved : goal.loop-k-preserved
unfolding part_of slots_of
loop-k-preserved c =
    let args = c.args in
    let l = c.loop-k in
    (search rules, l.invariant.1, l.invariant.2, l.invariant.3, part_more args.positions.now args.self (slots_of args.a args.r) l.k l.invariant.4 (omega arith) c.slot-part.ensures c.part-pass.ensures)

pub returns : goal.returns
unfolding slots_of
returns c =
    let args = c.args in
    let l = c.loop-k in
    parts_end args.positions.now args.self (slots_of args.a args.r) l.k l.invariant.4 (omega arith)
