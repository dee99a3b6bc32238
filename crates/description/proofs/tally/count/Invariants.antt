use mathlib.Core.Bool.{◌||◌}
use mathlib.Core.Path.{◌≡◌}
use Prim.Native.Nat.{◌-◌, ◌≤◌}
use lib.ListN.{take}
use Rattle.description.specs.Parts.{slots_of, uneven_of}
use Rattle.description.specs.Ranges.{ArrayRanges, LayerRanges, Low}
use Rattle.description.specs.Tally.{past_all}
use Rattle.description.specs.Tests.{any}
use Rattle.description.proofs.tally.count.Given as goal

abbrev pub invariant-loop-k : goal.invariant-loop-k
invariant-loop-k l =
    (l.k ≤ 12) × ArrayRanges l.a × LayerRanges l.r × Low 0x1_0000_0000 l.initial.place × (l.place ≡ past_all l.initial.place (take l.k (slots_of l.a l.r))) × (l.odd ≡ (l.initial.odd || any uneven_of (take l.k (slots_of l.a l.r))))

abbrev pub decreases-loop-k : goal.decreases-loop-k
decreases-loop-k l = 12 - l.k
