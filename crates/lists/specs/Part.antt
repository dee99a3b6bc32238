-- A part of a list.
use Rattle.std.specs.Prelude.{List, ℕ, take, drop}

-- n numbers from a on
abbrev pub part : {A : Type 0} → ℕ → ℕ → List A → List A
part a n l = take n (drop a l)
