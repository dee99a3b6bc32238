use mathlib.Core.List.{[]}
use mathlib.Core.Path.{◌≡◌}
use Prim.Native.Nat.{◌+◌}
use lib.ListN.{get_or}
use Rattle.description.specs.Limits.{outside}
use Rattle.description.specs.Tests.{any_below}
use Rattle.description.proofs.limits.breaks_range.Given as goal

abbrev pub invariant-loop-p : goal.invariant-loop-p
invariant-loop-p l = l.broken ≡ any_below l.p (λ p. outside (get_or l.limits p []) (get_or l.description (l.at + p) 0))
