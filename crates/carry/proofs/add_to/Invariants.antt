use Rattle.lists.specs.Region.{Apart}
use Rattle.lists.specs.Tab.{at, fill}
use mathlib.Core.Path.{◌≡◌}
use Prim.Native.Nat.{◌+◌, ◌-◌, ◌≤◌}
use lib.ListN.{length}
use lib.Ieee.{binary32, add}
use Rattle.carry.proofs.add_to.Given as goal

abbrev pub invariant-loop-i : goal.invariant-loop-i
invariant-loop-i l =
    (l.i ≤ l.n) × (length l.work ≡ length l.initial.work) × (l.to + l.n ≤ length l.initial.work) × (l.from + l.n ≤ length l.initial.work) × Apart l.to l.n l.from l.n
    × (l.work ≡ fill l.to l.i (λ i. add binary32 (at l.initial.work (l.to + i)) (at l.initial.work (l.from + i))) l.initial.work)

abbrev pub decreases-loop-i : goal.decreases-loop-i
decreases-loop-i l = l.n - l.i
