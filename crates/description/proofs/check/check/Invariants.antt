use mathlib.Core.Bool.{false}
use mathlib.Core.Path.{◌≡◌}
use Prim.Native.Nat.{◌-◌, ◌≤◌}
use lib.ListN.{length}
use Rattle.description.specs.Limits.{array_limits, breaks_range}
use Rattle.description.specs.Numbers.{layer_count, record_at}
use Rattle.description.specs.Records.{array_of}
use Rattle.description.specs.Refusals.{breaks_layer, refused1}
use Rattle.description.specs.Tests.{any_below}
use Rattle.description.proofs.Passing.{tally_at}
use Rattle.description.proofs.check.check.Given as goal

abbrev pub invariant-loop-l : goal.invariant-loop-l
invariant-loop-l l =
    (l.l ≤ l.layers) × (l.layers ≡ layer_count l.description) × (refused1 l.description ≡ false) × (length l.description ≡ record_at l.layers) × (l.a ≡ array_of l.description) × (breaks_range array_limits l.description 0 ≡ false) × (any_below l.l (breaks_layer l.description) ≡ false) × (l.tally ≡ tally_at l.description l.l)

abbrev pub decreases-loop-l : goal.decreases-loop-l
decreases-loop-l l = l.layers - l.l
