-- Made by its rule.
use borrow.Author.Rules.{rules}
use Rattle.sums.proofs.SideBySide.{made}
use Rattle.sums.proofs.row.add_input.Goals as goal

pub returns : goal.returns
returns c = made _ _ _ 16 (λ i y f' lt called. search rules) _ c.from_fn.ensures.items
