-- The number of a stage by another name. Assumes nothing.
use mathlib.Core.Path.{◌≡◌, subst}
use mathlib.Core.List.{List}
use Prim.Native.Nat.{ℕ}
use lib.Ieee.{Float}
use Rattle.description.specs.declared.places.Place.{Place}
use Rattle.array.specs.declared.Buffers.{Buffers}
use Rattle.array.specs.declared.Sources.{Sources}
use Rattle.stage.specs.declared.span.Span.{Span}
use Rattle.stage.specs.Turns.{TurnFits, TurnTaken}

pub fits_as : (s : Sources) (b : Buffers) (w : List Float) (span : Span) (start : Place) {k : ℕ} (j : ℕ) → TurnFits s b w span k start → k ≡ j → TurnFits s b w span j start
fits_as s b w span start j f e = subst (λ (x : ℕ). TurnFits s b w span x start) e f

pub taken_as : (s : Sources) (b : Buffers) (w : List Float) (b' : Buffers) (w' : List Float) (span : Span) {j k : ℕ} → TurnTaken s b w b' w' span j → j ≡ k → TurnTaken s b w b' w' span k
taken_as s b w b' w' span t e = subst (λ (x : ℕ). TurnTaken s b w b' w' span x) e t
