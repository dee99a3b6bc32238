-- Made by its rule.
use borrow.Author.Rules.{rules}
use Rattle.sums.proofs.SideBySide.{made}
use Rattle.sums.proofs.lanes.add_input.Goals as goal

pub returns : goal.returns
returns g c = made _ _ _ g.row.L (λ i y f' lt called. search rules) _ c.from_fn.ensures.items
