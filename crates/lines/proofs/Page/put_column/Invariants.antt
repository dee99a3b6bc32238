-- The rows passed are written.
use mathlib.Core.Path.{◌≡◌}
use Prim.Native.Nat.{◌≤◌}
use Rattle.lines.specs.Text.{column_of, values_text}
use Rattle.lines.specs.Lines.{Wrote}
use Rattle.lines.proofs.Page.put_column.Given as goal

abbrev pub invariant-loop-c : goal.invariant-loop-c
invariant-loop-c l = (l.c ≤ l.w) × (l.self.bytes.ghost_name ≡ l.initial.self.bytes.ghost_name) × Wrote l.initial.self (values_text (column_of l.n l.t l.c l.planar)) l.self
