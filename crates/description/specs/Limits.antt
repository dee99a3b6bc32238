-- Ranges: the lowest and the highest number at each place. Document 01, 'Description'.
use Rattle.std.specs.Prelude.{List, [], ◌∷◌, Bool, ◌||◌, ℕ, ◌+◌, ltb, get_or, length}
use Rattle.description.specs.Tests.{any_below}

infix 30 ◌to◌
-- the lowest and the highest number
abbrev pub ◌to◌ : ℕ → ℕ → List ℕ
low to high = low ∷ high ∷ []

-- input width, condition width, channels, head-in width, head size, head kernel, head bias, L
unfoldable pub array_limits : List (List ℕ)
array_limits = (1 to 32) ∷ (1 to 32) ∷ (1 to 32) ∷ (1 to 32) ∷ (1 to 32) ∷ (1 to 16) ∷ (0 to 1) ∷ (1 to 24) ∷ []

-- widths, groups and bottleneck are 1..32, kernels 1..16, dilation 1..2048, shift bits 0..255; what may be absent starts at 0; slopes may have any bits
unfoldable pub layer_limits : List (List ℕ)
layer_limits =
    (1 to 32) ∷ (1 to 16) ∷ (1 to 2048) ∷ (1 to 32) ∷ (1 to 32)
    ∷ (0 to 2) ∷ (0 to 3) ∷ (0 to 0xffff_ffff) ∷ (0 to 3) ∷ (0 to 0xffff_ffff)
    ∷ (0 to 32) ∷ (0 to 1)
    ∷ (0 to 32) ∷ (0 to 32) ∷ (0 to 1)
    ∷ (0 to 32) ∷ (0 to 32) ∷ (0 to 32) ∷ (0 to 32) ∷ (0 to 32) ∷ (0 to 32) ∷ (0 to 32) ∷ (0 to 32)
    ∷ (0 to 255) ∷ []

abbrev pub outside : List ℕ → ℕ → Bool
outside limits x = ltb x (get_or limits 0 0) || ltb (get_or limits 1 0) x

-- one of the numbers from a place on breaks its range
unfoldable pub breaks_range : List (List ℕ) → List ℕ → ℕ → Bool
breaks_range limits d at = any_below (length limits) (λ p. outside (get_or limits p []) (get_or d (at + p) 0))
