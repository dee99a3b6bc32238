use mathlib.Core.Path.{◌≡◌}
use Prim.Native.Nat.{◌+◌, ◌*◌, ◌-◌, ◌≤◌}
use lib.ListN.{length}
use Rattle.history.specs.Fits.{CopyFits}
use Rattle.lists.specs.Tab.{at, rows}
use Rattle.history.proofs.copy_rows.Given as goal

abbrev pub invariant-loop-c : goal.invariant-loop-c
invariant-loop-c l =
    (l.c ≤ l.w) × (length l.work ≡ length l.initial.work) × CopyFits (length l.initial.work) l.to.first l.to.stride l.from.first l.from.stride l.w l.n
    × (l.work ≡ rows l.to.first l.to.stride l.n l.c (λ c t. at l.initial.work (l.from.first + c * l.from.stride + t)) l.initial.work)

abbrev pub decreases-loop-c : goal.decreases-loop-c
decreases-loop-c l = l.w - l.c
