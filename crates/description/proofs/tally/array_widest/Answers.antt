-- The largest of the widths, by std's max.
use native.Mathlib.Nat.{max-zero}
use Rattle.description.specs.Sizes.{largest}
use Rattle.description.proofs.tally.array_widest.Goals as goal

pub returns : goal.returns
unfolding largest
returns c = rw (c.max-3.ensures, c.max-2.ensures, c.max.ensures, c.max-heads.ensures, max-zero)
