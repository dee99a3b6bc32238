-- Regions of one buffer: what lies apart, what a region holds, and what is kept.
use Rattle.std.specs.Prelude.{◌≡◌, List, ℕ, ◌+◌, ◌*◌, ◌≤◌, ◌<◌, min, max, length, get_or, Float}
use Rattle.lists.specs.Tab.{at}

-- n places from a on and k places from b on have none in common, in one inequality
abbrev pub Apart : ℕ → ℕ → ℕ → ℕ → Type 0
Apart a n b k = min (a + n) (b + k) ≤ max a b

-- row c, column t of a planar region of rows of m at a. Planar: number at channel x n + column
abbrev pub cell : ℕ → ℕ → List Float → ℕ → ℕ → Float
cell m a work c t = at work (a + c * m + t)

-- the region at a, w rows of m, holds f's numbers: f row column
pub record Holds (a w m : ℕ) (f : ℕ → ℕ → Float) (work : List Float) : Type 0 where
  pub is : (c t : ℕ) → c < w → t < m → cell m a work c t ≡ f c t

-- w rows from a on, each s places after the one before: their first n places hold f's numbers. Some columns of a region of rows of s
pub record Strip (a s w n : ℕ) (f : ℕ → ℕ → Float) (work : List Float) : Type 0 where
  pub is : (c t : ℕ) → c < w → t < n → at work (a + c * s + t) ≡ f c t

-- place i is none of them
abbrev pub Beside : ℕ → ℕ → ℕ → ℕ → ℕ → Type 0
Beside a s w n i = (c : ℕ) → c < w → Apart (a + c * s) n i 1

-- every place that P allows is as it was; d is what stands past the end
pub record Free {A : Type 0} (d : A) (P : ℕ → Type 0) (old new : List A) : Type 0 where
  pub long : length new ≡ length old
  pub is : (i : ℕ) → P i → get_or new i d ≡ get_or old i d
