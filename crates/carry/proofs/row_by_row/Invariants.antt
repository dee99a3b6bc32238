use Rattle.lists.specs.Tab.{at, rows}
use mathlib.Core.Path.{◌≡◌}
use Prim.Native.Nat.{◌+◌, ◌*◌, ◌-◌, ◌≤◌}
use lib.ListN.{length}
use Rattle.carry.proofs.row_by_row.Given as goal

abbrev pub invariant-loop-c : goal.invariant-loop-c
invariant-loop-c l =
    (l.c ≤ l.w) × (length l.dst ≡ length l.initial.dst) × (l.dst ≡ rows l.to l.s l.m l.c (λ c t. at l.src (l.from + c * l.n + t)) l.initial.dst)

abbrev pub decreases-loop-c : goal.decreases-loop-c
decreases-loop-c l = l.w - l.c
