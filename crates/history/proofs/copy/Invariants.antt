use mathlib.Core.Path.{◌≡◌}
use Prim.Native.Nat.{◌+◌, ◌-◌, ◌≤◌}
use lib.ListN.{length}
use Rattle.lists.specs.Region.{Apart}
use Rattle.lists.specs.Tab.{at, fill}
use Rattle.history.proofs.copy.Given as goal

abbrev pub invariant-loop-t : goal.invariant-loop-t
invariant-loop-t l =
    (l.t ≤ l.n) × (length l.work ≡ length l.initial.work) × (l.to + l.n ≤ length l.initial.work) × (l.from + l.n ≤ length l.initial.work) × Apart l.to l.n l.from l.n
    × (l.work ≡ fill l.to l.t (λ t. at l.initial.work (l.from + t)) l.initial.work)

abbrev pub decreases-loop-t : goal.decreases-loop-t
decreases-loop-t l = l.n - l.t
