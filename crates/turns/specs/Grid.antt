-- Stages that hand columns on, one column after the other. S: what a stage remembers; A: a column on its way.
use mathlib.Core.List.{List, [], ◌∷◌}
use Rattle.std.specs.Prelude.{ℕ, zero, suc}

-- stage k that remembers s takes a column that comes to it as v: next is what it remembers then, out the column as it leaves
module _ {S A : Type 0} (next : ℕ → S → A → S) (out : ℕ → S → A → A) where
  -- a column that came as v, past the first k stages, each remembering what st says
  unfoldable pub through : (ℕ → S) → A → ℕ → A
  through st v zero = v
  through st v (suc k) = out k (st k) (through st v k)

  -- what the stages remember after it
  unfoldable pub stepped : (ℕ → S) → A → ℕ → S
  unfolding through
  stepped st v k = next k (st k) (through st v k)

  -- what the stages remember after columns, one at a time
  unfoldable pub states_after : (ℕ → S) → List A → ℕ → S
  unfolding stepped
  states_after st [] = st
  states_after st (v ∷ vs) = states_after (stepped st v) vs

  -- those columns, past k stages
  unfoldable pub columns_after : ℕ → (ℕ → S) → List A → List A
  unfolding stepped
  columns_after k st [] = []
  columns_after k st (v ∷ vs) = through st v k ∷ columns_after k (stepped st v) vs
