-- NaN and its patterns, as the two tests of the code have them. Assumes nothing.
use mathlib.Core.Path.{◌≡◌, refl, sym, ◌∙◌, subst}
use mathlib.Core.Bool.{Bool, true, false, not}
use Prim.Native.Nat.{ℕ, ◌%◌, ◌<◌, ◌≤◌}
use lib.Dec.{T}
use lib.Ieee.{Float, nan, inf, fin, binary32, of_bits, nan_bits, is_nan, ne}
use lib.Ieee.Bits.{nan_bits_is, nan_bits_above}
use lib.Ieee.Compare.{differs_from_itself}
use borrow.Author.Tests.{lt-ltb, le-ltb}

is_nan_pattern : (x : Float) → is_nan x ≡ true → x ≡ nan
unfolding is_nan
is_nan_pattern nan e = refl
is_nan_pattern (inf s) e = absurd (subst T (sym e) tt)
is_nan_pattern (fin s m e) h = absurd (subst T (sym h) tt)

-- above the infinity's, the sign's bit taken off: a NaN's pattern
pub nan_pattern : (b : ℕ) → 0x7f80_0000 < b % 0x8000_0000 → of_bits binary32 b ≡ nan
nan_pattern b h = is_nan_pattern (of_bits binary32 b) (sym (nan_bits_is binary32 b) ∙ nan_bits_above binary32 b ∙ lt-ltb _ _ h)

pub no_nan_pattern : (b : ℕ) → b % 0x8000_0000 ≤ 0x7f80_0000 → T (not (nan_bits binary32 b))
no_nan_pattern b h = subst (λ (t : Bool). T (not t)) (sym (nan_bits_above binary32 b ∙ le-ltb _ _ h)) tt

pub differs : (x : Float) → ne x x ≡ true → x ≡ nan
differs x e = differs_from_itself x (subst T (sym e) tt)

pub same : (x : Float) → ne x x ≡ false → T (not (is_nan x))
unfolding is_nan ne
same nan e = absurd (subst T e tt)
same (inf s) e = tt
same (fin s m x) e = tt
