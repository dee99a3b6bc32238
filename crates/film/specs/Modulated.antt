-- FiLM's modulation. Document 01, 'The recurrence'.
use Rattle.std.specs.Prelude.{Bool, true, false, None, Some, List, ℕ, ◌+◌, Float}
use Rattle.std.specs.Float.{binary32}
use Rattle.std.specs.Float.Ieee.{add, mul}
use Rattle.lists.specs.Tab.{at}
use Rattle.film.specs.declared.Modulation.{Modulation}

-- value = input x scale, then + shift only where there is one
unfoldable pub modulated : Modulation → Float → Float
modulated d input = elim d.shift [ None ↦ mul binary32 input d.scale | Some shift ↦ add binary32 (mul binary32 input d.scale) shift ]

-- scale and shift together
unfoldable pub modulation_of : Bool → Float → Float → Modulation
modulation_of true scale shift = record { scale = scale; shift = Some shift }
modulation_of false scale shift = record { scale = scale; shift = None }

-- number i of those at `from`: the convolved condition gives n scales at s, then n shifts
unfoldable pub filmed : Bool → ℕ → ℕ → List Float → ℕ → ℕ → Float
filmed shifted s n work from i = modulated (modulation_of shifted (at work (s + i)) (at work (s + i + n))) (at work (from + i))
