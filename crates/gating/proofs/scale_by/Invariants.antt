use Rattle.lists.specs.Tab.{at, fill}
use mathlib.Core.Path.{◌≡◌}
use Prim.Native.Nat.{◌+◌, ◌-◌, ◌≤◌}
use lib.ListN.{length}
use lib.Ieee.{binary32, mul}
use Rattle.gating.proofs.scale_by.Given as goal

abbrev pub invariant-loop-i : goal.invariant-loop-i
invariant-loop-i l =
    (l.i ≤ l.n) × (length l.work ≡ length l.initial.work) × (l.out + l.n ≤ l.s) × (l.s + l.n ≤ length l.initial.work)
    × (l.work ≡ fill l.out l.i (λ i. mul binary32 (at l.initial.work (l.out + i)) (at l.initial.work (l.s + i))) l.initial.work)

abbrev pub decreases-loop-i : goal.decreases-loop-i
decreases-loop-i l = l.n - l.i
