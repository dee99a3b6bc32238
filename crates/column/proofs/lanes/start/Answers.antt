-- Without biases a table of zeros, whichever way the code picks the zero.
use lib.Ieee.{nan}
use mathlib.Core.Path.{◌∙◌}
use native.Mathlib.Omega.{arith}
use Rattle.std.proofs.lemmas.List.{length-replicate, get_or-replicate}
use Rattle.lists.proofs.Tab.{is_tab}
use Rattle.column.proofs.lanes.start.Goals as goal

pub returns-else-filter : goal.returns-else-filter
returns-else-filter g c = rw c.if-filter.false (is_tab nan _ g.row.L _ (length-replicate _ _) (λ i lt. get_or-replicate _ i _ _ lt ∙ grind arith))
