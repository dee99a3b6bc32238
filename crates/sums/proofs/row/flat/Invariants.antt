use mathlib.Core.Path.{◌≡◌}
use Prim.Native.Nat.{◌-◌, ◌≤◌}
use lib.ListN.{length}
use Rattle.lists.specs.Tab.{fill}
use Rattle.sums.proofs.row.flat.Given as goal

abbrev pub invariant-loop-t : goal.invariant-loop-t
invariant-loop-t l =
    (l.t ≤ l.n) × (length l.work ≡ length l.initial.work) × (l.work ≡ fill l.to l.t (λ t. l.v) l.initial.work)

abbrev pub decreases-loop-t : goal.decreases-loop-t
decreases-loop-t l = l.n - l.t
