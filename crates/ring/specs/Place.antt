-- Places in a ring of len columns. Document 01, 'The recurrence'.
use Rattle.std.specs.Prelude.{cond, ℕ, ◌+◌, ◌-◌, leb, ltb}

-- the place moves on by one and comes back to zero at the ring length
unfoldable pub next_place : ℕ → ℕ → ℕ
next_place len at = cond (ltb (at + 1) len) (at + 1) 0

-- the place b columns back
unfoldable pub place_back : ℕ → ℕ → ℕ → ℕ
place_back len at b = cond (leb b at) (at - b) (len - (b - at))
