use mathlib.Core.List.{◌++◌}
use mathlib.Core.Path.{◌≡◌}
use Prim.Native.Nat.{◌+◌, ◌*◌, ◌-◌, ◌≤◌}
use lib.ListN.{length, take, drop}
use Rattle.description.specs.Numbers.{layer_count}
use Rattle.description.specs.Parts.{parts_of}
use Rattle.description.specs.Records.{array_of}
use Rattle.description.specs.Refusals.{refusal_of}
use Rattle.description.specs.Sizes.{positions_of, total}
use Rattle.reset.specs.Resets.{starts_of}
use Rattle.reset.proofs.rewind.Given as goal

abbrev pub invariant-loop-i : goal.invariant-loop-i
invariant-loop-i l =
    (l.i ≤ l.count)
    × (refusal_of l.description ≡ 0)
    × (l.a ≡ array_of l.description)
    × (length l.initial.positions ≡ total positions_of (parts_of l.description))
    × (l.count ≡ 12 * layer_count l.description + 2)
    × (length l.positions ≡ length l.initial.positions)
    × (l.at ≡ total positions_of (take l.i (parts_of l.description)))
    × (l.positions ≡ starts_of (take l.i (parts_of l.description)) ++ drop l.at l.initial.positions)

abbrev pub decreases-loop-i : goal.decreases-loop-i
decreases-loop-i l = l.count - l.i
