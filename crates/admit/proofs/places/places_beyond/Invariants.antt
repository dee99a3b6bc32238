use mathlib.Core.Path.{◌≡◌}
use Prim.Native.Nat.{◌-◌, ◌≤◌}
use lib.ListN.{length}
use Rattle.description.specs.Numbers.{layer_count}
use Rattle.description.specs.Parts.{parts_of, parts_to}
use Rattle.description.specs.Records.{array_of}
use Rattle.description.specs.Refusals.{refusal_of}
use Rattle.description.specs.Sizes.{positions_of, total}
use Rattle.admit.specs.Passes.{passed}
use Rattle.admit.proofs.Passing.{origin}
use Rattle.admit.proofs.places.places_beyond.Given as goal

abbrev pub invariant-loop-l : goal.invariant-loop-l
invariant-loop-l l =
    (l.l ≤ l.layers) × (refusal_of l.description ≡ 0) × (l.a ≡ array_of l.description) × (length l.positions ≡ total positions_of (parts_of l.description)) × (l.layers ≡ layer_count l.description) × (l.pass ≡ passed l.positions origin (parts_to l.description l.l))

abbrev pub decreases-loop-l : goal.decreases-loop-l
decreases-loop-l l = l.layers - l.l
