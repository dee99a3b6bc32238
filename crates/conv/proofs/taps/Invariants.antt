use mathlib.Core.Path.{◌≡◌}
use Prim.Native.Nat.{◌-◌, ◌≤◌}
use lib.ListN.{length}
use Rattle.ring.specs.Held.{held}
use Rattle.conv.specs.Does.{AllTapped}
use Rattle.conv.proofs.taps.Given as goal

abbrev pub invariant-loop-k : goal.invariant-loop-k
invariant-loop-k l =
    (l.k ≤ l.kernel) × (length l.work ≡ length l.initial.work) × AllTapped l.filter.shape l.filter.weights.now l.stride l.block.columns l.block.x l.block.out l.block.rows (held l.memory) l.initial.work l.k l.work

abbrev pub decreases-loop-k : goal.decreases-loop-k
decreases-loop-k l = l.kernel - l.k
