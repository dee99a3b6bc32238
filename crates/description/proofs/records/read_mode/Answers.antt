-- `read_mode` goes by the code, as the definition's table does.
use mathlib.Core.List.{[], ◌∷◌}
use mathlib.Core.Path.{sym}
use lib.ListN.{get_or-eq_default}
use Rattle.description.specs.Records.{mode_of}
use Rattle.gating.specs.declared.Mode.TheVariants.{None, Gated, Blended}
use Rattle.description.proofs.Reading.{past_zero, past_it}
use Rattle.description.proofs.records.read_mode.Goals as goal

pub returns-in-0 : goal.returns-in-0
unfolding mode_of
returns-in-0 c = rw c.in-0.is

pub returns-in-1 : goal.returns-in-1
unfolding mode_of
returns-in-1 c = rw c.in-1.is

pub returns-in_default : goal.returns-in_default
unfolding mode_of
returns-in_default c = sym (get_or-eq_default (None ∷ Gated ∷ []) Blended {n = c.args.code} (past_it 1 (past_zero c.in_default.in_default-own.rest.0.1) c.in_default.in_default-own.rest.1))
