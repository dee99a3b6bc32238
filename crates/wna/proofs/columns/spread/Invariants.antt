-- The rows passed are filled.
use mathlib.Core.Path.{◌≡◌}
use Prim.Native.Nat.{◌+◌, ◌≤◌}
use lib.ListN.{length}
use Rattle.lists.specs.Tab.{rows}
use Rattle.wna.specs.Columns.{number_at}
use Rattle.wna.proofs.columns.spread.Given as goal

abbrev pub invariant-loop-c : goal.invariant-loop-c
invariant-loop-c l =
    (l.c ≤ l.w) × (length l.dst ≡ length l.initial.dst) × (l.dst ≡ rows 0 l.n l.n l.c (λ c t. number_at l.bytes l.width t (l.k + c)) l.initial.dst)
