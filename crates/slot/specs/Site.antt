-- A FiLM site over a block of columns: what it asks, and what it does.
use Rattle.std.specs.Prelude.{◌≡◌, Bool, cond, List, ℕ, suc, ◌+◌, ◌*◌, ◌≤◌, Float, None, Some}
use Rattle.std.specs.Float.{nan}
use Rattle.lists.specs.Region.{Apart, Holds, Free}
use Rattle.shape.specs.declared.Shape.{Shape}
use Rattle.description.specs.Sizes.{histories_of, positions_of}
use Rattle.description.specs.Part.{Part}
use Rattle.description.specs.declared.places.Place.{Place}
use Rattle.slot.specs.View.{weights_in, memory_in}
use Rattle.slot.specs.Steps.{sited, pushed_all}
use Rattle.slot.specs.Play.{PlayFits}

-- a site that is there: its convolution reads the condition and writes scales and shifts at s; w channels of m columns at `to` lie apart from these
pub record SiteThere (sh : Shape) (shifted : Bool) (at : Place) (p w width m nwork nhistories npositions nweights condition to s rows : ℕ) : Type 0 where
  pub play : PlayFits sh at p m nwork nhistories npositions nweights condition s rows
  pub ins_are : sh.ins ≡ width
  pub outs_are : sh.outs ≡ w * cond shifted 2 1
  pub to_s : Apart to (w * m) s (sh.outs * m)
  pub to_rows : Apart to (w * m) rows (sh.ins * m)

-- for a part that may be absent
pub record SiteFits (part : Part) (shifted : Bool) (at : Place) (p w width m nwork nhistories npositions nweights condition to s rows : ℕ) : Type 0 where
  pub to_in : to + w * m ≤ nwork
  pub there : (sh : Shape) → part ≡ Some sh → SiteThere sh shifted at p w width m nwork nhistories npositions nweights condition to s rows
  pub small : nwork ≤ 0xffff_ffff

-- where the columns past a site are: at `to`, or, where it is absent, still at `from`
unfoldable pub result_at : Part → ℕ → ℕ → ℕ
result_at None to from = from
result_at (Some sh) to from = to

-- whichever columns the condition's region and the region at `from` held: past the site they are at `result`
pub record Sited (part : Part) (shifted : Bool) (at : Place) (weights : List Float) (w width m condition from to s rows result : ℕ) (work histories : List Float) (positions : List ℕ)
    (work' histories' : List Float) (positions' : List ℕ) : Type 0 where
  pub there : result ≡ result_at part to from
  pub outs : (v f : ℕ → ℕ → Float) → Holds from w m (λ c t. v t c) work → Holds condition width m (λ c t. f t c) work
      → Holds result w m (λ c t. sited part shifted w (weights_in part at weights) (pushed_all part f (memory_in part at histories positions) (suc t)) (v t) c) work'
  pub memory : (f : ℕ → ℕ → Float) → Holds condition width m (λ c t. f t c) work
      → memory_in part at histories' positions' ≡ pushed_all part f (memory_in part at histories positions) m
  pub others : Free nan (λ i. Apart to (w * m) i 1 × Apart s (w * 2 * m) i 1 × Apart rows (width * m) i 1) work work'
  pub histories_kept : Free nan (λ i. Apart at.histories (histories_of part) i 1) histories histories'
  pub positions_kept : Free 0 (λ i. Apart at.positions (positions_of part) i 1) positions positions'
