use Rattle.std.specs.Prelude.{Float}
use Rattle.lists.specs.Tab.{at, fill}
use Rattle.activation.specs.Activated.{Computes}
use mathlib.Core.Path.{◌≡◌}
use Prim.Native.Nat.{◌+◌, ◌-◌}
use Rattle.activation.proofs.over.Given as goal

abbrev pub invariant-loop-i : goal.invariant-loop-i
invariant-loop-i g l =
    (h : Float → Float) → Computes (goal.F-post g l.f) h → l.work ≡ fill l.to l.i (λ i. h (at l.initial.work (l.from + i))) l.initial.work

abbrev pub decreases-loop-i : goal.decreases-loop-i
decreases-loop-i g l = l.n - l.i
