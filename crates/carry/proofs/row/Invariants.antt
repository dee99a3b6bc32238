use Rattle.lists.specs.Tab.{at, fill}
use mathlib.Core.Path.{◌≡◌}
use Prim.Native.Nat.{◌+◌, ◌-◌, ◌≤◌}
use lib.ListN.{length}
use Rattle.carry.proofs.row.Given as goal

abbrev pub invariant-loop-t : goal.invariant-loop-t
invariant-loop-t l =
    (l.t ≤ l.m) × (length l.dst ≡ length l.initial.dst) × (l.dst ≡ fill l.to l.t (λ t. at l.src (l.from + t)) l.initial.dst)

abbrev pub decreases-loop-t : goal.decreases-loop-t
decreases-loop-t l = l.m - l.t
