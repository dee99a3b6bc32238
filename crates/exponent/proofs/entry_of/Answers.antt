-- `entry_of` reads the entry that the definition names: the code's table and the specs' are the same list; an entry has 31 digits, so it fits.
use Rattle.exponent.specs.Table.{table, entry}
use mathlib.Core.Path.{refl}
use Rattle.exponent.proofs.entry_of.Goals as goal

pub returns : goal.returns
unfolding entry table
returns c = refl
