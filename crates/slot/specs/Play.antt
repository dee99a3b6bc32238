-- A convolution on its parts of all buffers: what it asks, and what it does.
use Rattle.std.specs.Prelude.{◌≡◌, List, ℕ, suc, ◌+◌, ◌*◌, ◌≤◌, ◌<◌, Float, Some}
use Rattle.std.specs.Float.{nan}
use Rattle.lists.specs.Region.{Apart, Holds, Free}
use Rattle.shape.specs.declared.Shape.{Shape}
use Rattle.shape.specs.Counts.{InRange, ring_length, weight_count, history_count}
use Rattle.shape.specs.Groups.{Divided}
use Rattle.column.specs.Recurrence.{output, remembered}
use Rattle.description.specs.declared.places.Place.{Place}
use Rattle.slot.specs.View.{weights_in, memory_in}

-- a shape whose numbers lie at a place, its position p, and regions of m columns: the input at x, the output at out, and at rows one that is used up
pub record PlayFits (sh : Shape) (at : Place) (p m nwork nhistories npositions nweights x out rows : ℕ) : Type 0 where
  pub range : InRange sh
  pub divided : Divided sh
  pub place_in : p < ring_length sh
  pub histories_in : at.histories + history_count sh ≤ nhistories
  pub weights_inside : at.weights + weight_count sh ≤ nweights
  pub positions_in : at.positions < npositions
  pub x_in : x + sh.ins * m ≤ nwork
  pub out_in : out + sh.outs * m ≤ nwork
  pub rows_in : rows + sh.ins * m ≤ nwork
  pub out_x : Apart out (sh.outs * m) x (sh.ins * m)
  pub out_rows : Apart out (sh.outs * m) rows (sh.ins * m)
  pub rows_x : Apart rows (sh.ins * m) x (sh.ins * m)

-- whichever columns f the region at x held
pub record Played (sh : Shape) (at : Place) (weights : List Float) (m x out rows : ℕ) (work histories : List Float) (positions : List ℕ)
    (work' histories' : List Float) (positions' : List ℕ) : Type 0 where
  pub outs : (f : ℕ → ℕ → Float) → Holds x sh.ins m (λ c t. f t c) work
      → Holds out sh.outs m (λ o t. output sh (weights_in (Some sh) at weights) (remembered sh f (memory_in (Some sh) at histories positions) (suc t)) o) work'
  pub memory : (f : ℕ → ℕ → Float) → Holds x sh.ins m (λ c t. f t c) work
      → memory_in (Some sh) at histories' positions' ≡ remembered sh f (memory_in (Some sh) at histories positions) m
  pub others : Free nan (λ i. Apart out (sh.outs * m) i 1 × Apart rows (sh.ins * m) i 1) work work'
  pub histories_kept : Free nan (λ i. Apart at.histories (history_count sh) i 1) histories histories'
  pub positions_kept : Free 0 (λ i. Apart at.positions 1 i 1) positions positions'
