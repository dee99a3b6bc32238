-- What a part does with a column: it is pushed, convolved, and, at a FiLM site, modulates. Document 01, 'The recurrence'.
use Rattle.std.specs.Prelude.{Bool, List, ℕ, zero, suc, ◌+◌, Float, None, Some}
use Rattle.std.specs.Float.{binary32}
use Rattle.std.specs.Float.Ieee.{of_bits}
use Rattle.ring.specs.Memory.{Memory, push}
use Rattle.shape.specs.Counts.{ring_length}
use Rattle.column.specs.Recurrence.{output}
use Rattle.film.specs.Modulated.{modulated, modulation_of}
use Rattle.description.specs.Part.{Part}

-- what it remembers after a column; an absent part remembers nothing
unfoldable pub pushed : Part → Memory → (ℕ → Float) → Memory
pushed None s column = s
pushed (Some sh) s column = push sh.ins (ring_length sh) s column

-- output o of the column pushed last
unfoldable pub convolved : Part → List Float → Memory → ℕ → Float
convolved None weights s o = of_bits binary32 0
convolved (Some sh) weights s o = output sh weights s o

-- FiLM: the convolved condition gives scales, then shifts, for w channels; an absent site leaves the column as it is
unfoldable pub sited : Part → Bool → ℕ → List Float → Memory → (ℕ → Float) → ℕ → Float
sited None shifted w weights s v c = v c
sited (Some sh) shifted w weights s v c = modulated (modulation_of shifted (output sh weights s c) (output sh weights s (w + c))) (v c)

-- what a part remembers after t columns, one at a time
unfoldable pub pushed_all : Part → (ℕ → ℕ → Float) → Memory → ℕ → Memory
pushed_all p x s zero = s
pushed_all p x s (suc t) = pushed p (pushed_all p x s t) (x t)
