use mathlib.Core.Bool.{◌&&◌}
use mathlib.Core.Path.{◌≡◌}
use Prim.Native.Nat.{◌+◌}
use lib.ListN.{get_or}
use Rattle.description.specs.Tests.{any_below}
use Rattle.description.specs.ZeroRules.{none, bit}
use Rattle.description.proofs.zeros.breaks_sites.Given as goal

abbrev pub invariant-loop-i : goal.invariant-loop-i
invariant-loop-i l =
    (l.bits ≡ get_or l.description (l.at + 23) 0) × (l.broken ≡ any_below l.i (λ i. none (get_or l.description (l.at + (15 + i)) 0) && bit l.bits i))
