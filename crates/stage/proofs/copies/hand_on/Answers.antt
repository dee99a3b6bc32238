-- Two copies, one after the other: Copying says what they come to.
use Rattle.stage.proofs.Copying.{handed_on}
use Rattle.stage.proofs.copies.hand_on.Goals as goal

pub returns : goal.returns
returns c = handed_on _ _ _ _ c.requires.copy_fits c.requires.size_bound.0 c.columns_within.ensures c.columns_within-2.ensures
