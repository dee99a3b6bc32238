-- Three copies, one after the other: Copying says what they come to.
use Rattle.stage.proofs.Copying.{brought}
use Rattle.stage.proofs.copies.bring.Goals as goal

pub returns : goal.returns
returns c = brought c.args.condition.now _ _ _ _ c.requires.copy_fits c.columns_within.ensures c.columns.ensures c.columns_within-2.ensures
