-- The lines of the columns passed, each within its share of the buffer.
use mathlib.Core.Path.{◌≡◌}
use Prim.Native.Nat.{◌+◌, ◌*◌, ◌≤◌}
use Rattle.lines.specs.Text.{lines_of}
use Rattle.lines.specs.Lines.{Wrote, outputs}
use Rattle.lines.proofs.put_lines.Given as goal

abbrev pub invariant-loop-t : goal.invariant-loop-t
invariant-loop-t l =
    (l.t ≤ l.columns.count) × (l.page.bytes.ghost_name ≡ l.initial.page.bytes.ghost_name) × (l.page.at ≤ l.t * (9 * (l.columns.heads + l.columns.arrays) + 11)) × Wrote l.initial.page (lines_of l.first (outputs l.columns) l.t) l.page
