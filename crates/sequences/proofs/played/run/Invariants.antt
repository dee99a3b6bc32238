-- The measure is the number of columns that are left.
use Rattle.std.proofs.Common.{◌-◌, ◌≤◌}
use Rattle.sequences.proofs.played.run.Given as goal

abbrev pub invariant-loop-column : goal.invariant-loop-column
invariant-loop-column l = (l.column ≤ 64) × (l.i ≤ l.column)

abbrev pub decreases-loop-column : goal.decreases-loop-column
decreases-loop-column l = 64 - l.column
