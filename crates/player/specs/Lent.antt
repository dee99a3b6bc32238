-- The facts of Fits and Plays, of what the program's functions are lent.
use Rattle.std.specs.Prelude.{◌≡◌, List, ℕ, length, Float}
use Rattle.player.specs.declared.lent.Model.{Model}
use Rattle.player.specs.declared.lent.Desk.{Desk}
use Rattle.player.specs.Fits.{Ready}
use Rattle.player.specs.Plays.{Ended, Heard, Partly, Plays}

-- the same three borrows, the text as long as it was: each ends as what is written through it
pub record SameDesk (k k' : Desk) : Type 0 where
  pub histories : k'.histories.ghost_name ≡ k.histories.ghost_name
  pub positions : k'.positions.ghost_name ≡ k.positions.ghost_name
  pub text : k'.text.ghost_name ≡ k.text.ghost_name
  pub text_long : length k'.text.now ≡ length k.text.now

-- a block of n columns, the first of which has this index, can be played
abbrev pub IsReady : Model → Desk → List Float → ℕ → ℕ → Type 0
IsReady m k scratch n first = Ready m.description.now m.array n first m.weights.now k.histories.now k.positions.now scratch k.text.now

-- so many columns are played
abbrev pub HasHeard : Model → ℕ → Desk → Type 0
HasHeard m count k = Heard m.description.now m.weights.now count k.histories.now k.positions.now

abbrev pub HasHeardSome : Model → ℕ → ℕ → Desk → Type 0
HasHeardSome m first columns k = Partly m.description.now m.weights.now first columns k.histories.now k.positions.now

abbrev pub HasEnded : Model → ℕ → ℕ → Desk → Type 0
HasEnded m columns number k = Ended m.description.now m.weights.now columns number k.histories.now k.positions.now

-- the columns of the bytes are played, from a desk as it was to one as it is: so many bytes of its text are their lines
abbrev pub HasPlayed : Model → List ℕ → ℕ → ℕ → Desk → ℕ → Desk → Type 0
HasPlayed m bytes n first k r k' =
    Plays m.description.now m.weights.now bytes n first k.histories.now k.positions.now k.text.now r k'.histories.now k'.positions.now k'.text.now
