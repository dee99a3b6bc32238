-- `read_activation` goes by the code, as the definition's table does.
use mathlib.Core.List.{[], ◌∷◌}
use mathlib.Core.Path.{sym}
use lib.ListN.{get_or-eq_default}
use Rattle.activation.specs.declared.Activation.TheVariants.{Tanh, Relu, Sigmoid}
use Rattle.description.specs.Records.{activation_of}
use Rattle.description.proofs.Reading.{past_zero, past_it}
use Rattle.description.proofs.records.read_activation.Goals as goal

pub returns-in-0 : goal.returns-in-0
unfolding activation_of
returns-in-0 c = rw c.in-0.is

pub returns-in-1 : goal.returns-in-1
unfolding activation_of
returns-in-1 c = rw c.in-1.is

pub returns-in-2 : goal.returns-in-2
unfolding activation_of
returns-in-2 c = rw c.in-2.is

pub returns-in_default : goal.returns-in_default
unfolding activation_of
returns-in_default c =
    rw c.from_bits.ensures
    (sym
    (get_or-eq_default (Tanh ∷ Relu ∷ Sigmoid ∷ []) _ {n = c.args.code}
    (past_it 2 (past_it 1 (past_zero c.in_default.in_default-own.rest.0.0.1) c.in_default.in_default-own.rest.0.1) c.in_default.in_default-own.rest.1)))
