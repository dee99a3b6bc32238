-- `count` adds a layer's slots. The loop's invariant: place and flag are those past the first k slots (Totals).
use mathlib.Core.Bool.{or-false}
use mathlib.Core.Path.{sym}
use native.Mathlib.Omega.{arith}
use borrow.Author.Rules.{rules}
use Rattle.description.specs.Parts.{part_of, slots_of}
use Rattle.description.specs.Tests.{any}
use Rattle.description.proofs.Slots.{slot_fits}
use Rattle.description.proofs.Totals.{count_end, low_on, odd_take, past-low, past-none, past-take}
use Rattle.description.proofs.tally.count.Goals as goal

pub loop-k-init : goal.loop-k-init
unfolding any
loop-k-init c = (search rules, c.requires.array_ranges, c.requires.layer_ranges, c.requires.low, past-none c.args.start.place, sym (or-false c.args.start.uneven))

pub slot-part-requires : goal.slot-part-requires
slot-part-requires c = record { array_ranges = c.loop-k.invariant.1; layer_ranges = c.loop-k.invariant.2; k_bound = search rules }

pub uneven-odd-requires : goal.uneven-odd-requires
uneven-odd-requires c = rw c.slot-part.ensures (slot_fits c.loop-k.invariant.1 c.loop-k.invariant.2 c.loop-k.k)

pub past-place-requires : goal.past-place-requires
unfolding part_of
past-place-requires c =
    let args = c.args in
    let loop = c.loop-k in record { low = rw loop.invariant.4 (low_on (past-low _ args.start.place (slots_of args.a args.r) loop.invariant.3 (λ i. slot_fits loop.invariant.1 loop.invariant.2 i) loop.k) (omega arith)); fits = rw c.slot-part.ensures (slot_fits loop.invariant.1 loop.invariant.2 loop.k) }

pub loop-k-preserved : goal.loop-k-preserved
unfolding part_of slots_of
loop-k-preserved c =
    let args = c.args in
    let loop = c.loop-k in
    let slot = c.slot-part in (
      search rules,
      loop.invariant.1,
      loop.invariant.2,
      loop.invariant.3,
      rw (c.past-place.ensures, slot.ensures, loop.invariant.4) (past-take args.start.place (slots_of args.a args.r) loop.k (omega arith)),
      rw (c.uneven-odd.ensures, slot.ensures, loop.invariant.5) (odd_take args.start.uneven (slots_of args.a args.r) loop.k (omega arith)),
    )

pub returns : goal.returns
unfolding slots_of
returns c =
    let args = c.args in
    count_end args.start (slots_of args.a args.r) c.loop-k.k _ _ c.loop-k.invariant.4 c.loop-k.invariant.5 (omega arith)
