-- What a convolution remembers: a history of len columns of w numbers, and the place of the column pushed last. Document 01, 'The recurrence'.
use Rattle.std.specs.Prelude.{◌≡◌, List, ℕ, zero, suc, ◌+◌, ◌*◌, ◌<◌, length, Float}
use Rattle.lists.specs.Tab.{at, fill}
use Rattle.ring.specs.Place.{next_place, place_back}

pub record Memory : Type 0 where
  pub history : List Float
  pub place : ℕ

-- a memory of the right size, with its place in the ring
pub record Sound (w len : ℕ) (s : Memory) : Type 0 where
  pub place_in : s.place < len
  pub history_is : length s.history ≡ w * len

-- a column pushed: the place moves on, then the column is stored. Channel j of a column at place x w + j
unfoldable pub push : ℕ → ℕ → Memory → (ℕ → Float) → Memory
push w len s column = let p = next_place len s.place in record { history = fill (p * w) w column s.history; place = p }

-- channel j of the column b back from the one pushed last
unfoldable pub past : ℕ → ℕ → Memory → ℕ → ℕ → Float
past w len s j b = at s.history (place_back len s.place b * w + j)

-- after t columns of x, one at a time; x column channel
unfoldable pub after : ℕ → ℕ → (ℕ → ℕ → Float) → Memory → ℕ → Memory
after w len x s zero = s
after w len x s (suc t) = push w len (after w len x s t) (x t)

-- what stands b back from column t of a row x, where before its column 0 stand old 0, then old 1, ..
unfoldable pub seen : (ℕ → Float) → (ℕ → Float) → ℕ → ℕ → Float
seen x old zero t = x t
seen x old (suc b) zero = old b
seen x old (suc b) (suc t) = seen x old b t
