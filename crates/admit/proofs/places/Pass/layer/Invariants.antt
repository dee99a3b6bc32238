use mathlib.Core.Path.{◌≡◌}
use Prim.Native.Nat.{◌+◌, ◌-◌, ◌≤◌}
use lib.ListN.{length, take}
use Rattle.description.specs.Parts.{slots_of}
use Rattle.description.specs.Ranges.{ArrayRanges, LayerRanges}
use Rattle.description.specs.Sizes.{positions_of, total}
use Rattle.admit.specs.Passes.{passed}
use Rattle.admit.proofs.places.Pass.layer.Given as goal

abbrev pub invariant-loop-k : goal.invariant-loop-k
invariant-loop-k l =
    (l.k ≤ 12) × ArrayRanges l.a × LayerRanges l.r × (l.initial.pass.at + total positions_of (slots_of l.a l.r) ≤ length l.positions) × (l.pass ≡ passed l.positions l.initial.pass (take l.k (slots_of l.a l.r)))

abbrev pub decreases-loop-k : goal.decreases-loop-k
decreases-loop-k l = 12 - l.k
