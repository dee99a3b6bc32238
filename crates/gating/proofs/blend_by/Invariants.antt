use Rattle.gating.specs.Joined.{blend}
use Rattle.lists.specs.Tab.{at, fill}
use mathlib.Core.Path.{◌≡◌}
use Prim.Native.Nat.{◌+◌, ◌-◌, ◌≤◌}
use lib.ListN.{length}
use Rattle.gating.proofs.blend_by.Given as goal

abbrev pub invariant-loop-i : goal.invariant-loop-i
invariant-loop-i l =
    (l.i ≤ l.n) × (length l.work ≡ length l.initial.work) × (l.out + l.n ≤ l.a) × (l.a + l.n ≤ l.s) × (l.s + l.n ≤ length l.initial.work)
    × (l.work ≡ fill l.out l.i (λ i. blend (at l.initial.work (l.s + i)) (at l.initial.work (l.out + i)) (at l.initial.work (l.a + i))) l.initial.work)

abbrev pub decreases-loop-i : goal.decreases-loop-i
decreases-loop-i l = l.n - l.i
