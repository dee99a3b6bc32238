use mathlib.Core.Path.{◌≡◌}
use Prim.Native.Nat.{◌-◌, ◌≤◌}
use lib.ListN.{length}
use Rattle.ring.specs.Held.{held, Keeps}
use Rattle.conv.proofs.Cuts.{Begun}
use Rattle.conv.proofs.parts.Given as goal

abbrev pub invariant-loop-t : goal.invariant-loop-t
invariant-loop-t l =
    (l.t ≤ l.m) × (length l.work ≡ length l.initial.work) × Keeps l.initial.memory l.memory
    × Begun l.filter.shape l.filter.weights.now l.m l.t l.block.x l.block.out l.block.rows l.initial.work (held l.initial.memory) l.work (held l.memory)

abbrev pub decreases-loop-t : goal.decreases-loop-t
decreases-loop-t l = l.m - l.t
