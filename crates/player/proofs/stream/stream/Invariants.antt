-- No more columns are left than were counted, and the desk is the one that was lent, after the columns that are not left. The measure is what is left.
use Rattle.std.proofs.Common.{◌≤◌, ◌-◌}
use Rattle.player.specs.Lent.{HasHeard, SameDesk}
use Rattle.player.proofs.stream.stream.Given as goal

abbrev pub invariant-loop-left : goal.invariant-loop-left
invariant-loop-left g l = record { counted : l.left ≤ l.columns; same : SameDesk l.initial.desk l.desk; heard : HasHeard l.model (l.columns - l.left) l.desk }

abbrev pub decreases-loop-left : goal.decreases-loop-left
decreases-loop-left g l = l.left
