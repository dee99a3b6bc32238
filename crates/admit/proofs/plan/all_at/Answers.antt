-- `all_at` is the definition's walk over the list.
use Rattle.std.proofs.Common.{eqb, refl, rules}
use Rattle.std.proofs.lemmas.List.Recursion.{and_is}
use Rattle.turns.specs.Plan.{all_are}
use Rattle.admit.proofs.plan.all_at.Goals as goal

pub returns : goal.returns
unfolding all_are
returns c = and_is (all_are c.args.n) (λ x. eqb x c.args.n) refl (λ _ _. refl) c.args.reached.now 0 _ (search rules) (search rules)
