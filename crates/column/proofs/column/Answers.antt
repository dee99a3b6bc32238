-- The column is pushed, which leaves a memory of the same size; the outputs are that memory's.
use native.Mathlib.Omega.{arith}
use Rattle.shape.specs.Counts.{history_count}
use Rattle.column.proofs.OneColumn.{parts_after}
use Rattle.column.proofs.column.Goals as goal

pub store-requires : goal.store-requires
unfolding history_count
store-requires c =
    let pre = c.requires in
    let f = pre.0 in
    record { some = f.range.ins_low; place_in = f.place_in; history_is = rw f.ring_is f.history_is; block_in = λ i hi. omega (arith, pre.1 i hi) }

pub outputs-requires : goal.outputs-requires
outputs-requires c = (parts_after _ _ 1 c.args.memory.now.history.now _ _ c.requires.0 c.store.ensures.stored c.store.ensures.kept.1, c.requires.2)
