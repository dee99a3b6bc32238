-- When the call is refused, and what it does otherwise.
use Rattle.std.specs.Prelude.{◌≡◌, Bool, true, List, ℕ, ◌+◌, ◌≤◌, Float}
use Rattle.lists.specs.Region.{Apart}
use Rattle.ring.specs.Memory.{Memory}
use Rattle.shape.specs.declared.Shape.{Shape}
use Rattle.shape.specs.Counts.{ring_length}
use Rattle.conv.specs.Fits.{ConvFits}
use Rattle.conv.specs.Does.{Convolved}

-- a test that is true exactly when A
abbrev pub Exactly : Bool → Type 0 → Type 0
Exactly r A = (r ≡ true → A) × (A → r ≡ true)

pub record RegionsFit (nwork nx nout x out rows : ℕ) : Type 0 where
  pub x_in : x + nx ≤ nwork
  pub out_in : out + nout ≤ nwork
  pub rows_in : rows + nx ≤ nwork
  pub out_x : Apart out nout x nx
  pub out_rows : Apart out nout rows nx
  pub rows_x : Apart rows nx x nx

pub record CallFits (sh : Shape) (place bias m nwork nhistory nweights x out rows : ℕ) : Type 0 where
  pub bias_is : bias ≤ 1
  pub columns_low : 1 ≤ m
  pub columns_high : m ≤ 1024
  pub fits : ConvFits sh place (ring_length sh) m nwork nhistory nweights x out rows

-- 0 and the convolution, or 1 and nothing touched
pub record Called (sh : Shape) (fits : Type 0) (weights : List Float) (m x out rows : ℕ) (work : List Float) (s : Memory) (r : ℕ) (work' : List Float) (s' : Memory) : Type 0 where
  pub played : fits → (r ≡ 0) × Convolved sh weights m x out rows work s work' s'
  pub refused : (fits → ⊥) → (r ≡ 1) × (work' ≡ work) × (s' ≡ s)
