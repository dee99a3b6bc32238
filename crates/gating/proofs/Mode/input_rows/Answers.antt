use Rattle.gating.specs.Joined.{input_rows}
use Rattle.gating.proofs.Mode.input_rows.Goals as goal

pub returns-in-None : goal.returns-in-None
unfolding input_rows
returns-in-None c = rw c.in-None.is

pub returns-in-Gated : goal.returns-in-Gated
unfolding input_rows
returns-in-Gated c = rw c.in-Gated.is

pub returns-in-Blended : goal.returns-in-Blended
unfolding input_rows
returns-in-Blended c = rw c.in-Blended.is
