-- What the places have to be: n numbers at `to`, n scales at s, and after them n shifts where there are any.
use Rattle.std.specs.Prelude.{◌≡◌, ◌⊎◌, Bool, true, ℕ, ◌+◌, ◌≤◌}
use Rattle.lists.specs.Region.{Apart}

pub record FilmFits (nwork to s n : ℕ) (shifted : Bool) : Type 0 where
  pub to_in : to + n ≤ nwork
  pub scales_in : s + n ≤ nwork
  pub scales_apart : Apart to n s n
  pub shifts_in : shifted ≡ true → s + n + n ≤ nwork
  pub shifts_apart : shifted ≡ true → Apart to n (s + n) n

-- each of the n numbers from `from` on is read before its place may be written: where they go is no later, or lies behind all of them
abbrev pub ReadFirst : ℕ → ℕ → ℕ → Type 0
ReadFirst to from n = (to ≤ from) ⊎ (from + n ≤ to)
