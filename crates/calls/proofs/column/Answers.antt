-- A block of one.
use Rattle.calls.proofs.Answering.{column_as}
use Rattle.calls.proofs.column.Goals as goal

pub returns : goal.returns
returns c = record { answers = column_as _ c.block.ensures.answers; same = c.block.ensures.same }
