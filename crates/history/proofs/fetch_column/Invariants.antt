use mathlib.Core.Path.{◌≡◌}
use Prim.Native.Nat.{◌+◌, ◌-◌, ◌≤◌}
use lib.ListN.{length}
use Rattle.lists.specs.Tab.{at, rows}
use Rattle.history.proofs.fetch_column.Given as goal

abbrev pub invariant-loop-j : goal.invariant-loop-j
invariant-loop-j l =
    (l.j ≤ l.ins) × (length l.work ≡ length l.initial.work) × (l.work ≡ rows l.first l.stride 1 l.j (λ j t. at l.history (l.base + j)) l.initial.work)

abbrev pub decreases-loop-j : goal.decreases-loop-j
decreases-loop-j l = l.ins - l.j
