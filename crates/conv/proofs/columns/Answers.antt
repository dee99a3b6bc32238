-- Started, tapped and stored is the recurrence, by `columns_are`.
use mathlib.Core.Path.{refl}
use native.Mathlib.Omega.{arith}
use Rattle.conv.proofs.Blocks.{store_fits, columns_are}
use Rattle.conv.proofs.columns.Goals as goal

pub store-requires : goal.store-requires
store-requires c = store_fits c.requires.0 _ (omega (arith, c.taps.auto.work, c.start.auto.work))

pub returns-clause-done : goal.returns-clause-done
returns-clause-done c =
    columns_are c.requires.0 _ c.args.work.now c.args.memory.now.history.now _ _ _ _ refl refl c.start.ensures c.taps.ensures c.store.ensures.stored
