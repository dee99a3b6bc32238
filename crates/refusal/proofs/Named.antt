-- A refusal by its number: no two have the same, and none has 0.
use Rattle.std.proofs.Common.{◌≡◌, refl, sym, ◌∙◌, ap, ℕ, ◌-◌, ◌<◌, [], ◌∷◌, get_or}
use native.Mathlib.Omega.{arith}
use Rattle.refusal.specs.Number.{number}
use Rattle.refusal.specs.declared.Refusal.{Refusal}
use Rattle.refusal.specs.declared.Refusal.TheVariants.{DescriptionLength, Range, Groups, Widths, TooLarge, BlockSize, BufferLength, Position, Plan, File, Room}

unfoldable pub named : ℕ → Refusal
named n =
    get_or
    (DescriptionLength ∷ Range ∷ Groups ∷ Widths ∷ TooLarge ∷ BlockSize ∷ BufferLength ∷ Position ∷ Plan ∷ File ∷ Room ∷ [])
    (n - 1)
    Room

pub named_number : (r : Refusal) → named (number r) ≡ r
unfolding named
named_number DescriptionLength = refl
named_number Range = refl
named_number Groups = refl
named_number Widths = refl
named_number TooLarge = refl
named_number BlockSize = refl
named_number BufferLength = refl
named_number Position = refl
named_number Plan = refl
named_number File = refl
named_number Room = refl

pub same_number : {r s : Refusal} → number r ≡ number s → r ≡ s
same_number {r} {s} e = sym (named_number r) ∙ ap named e ∙ named_number s

pub number_above : (r : Refusal) → 0 < number r
number_above DescriptionLength = omega arith
number_above Range = omega arith
number_above Groups = omega arith
number_above Widths = omega arith
number_above TooLarge = omega arith
number_above BlockSize = omega arith
number_above BufferLength = omega arith
number_above Position = omega arith
number_above Plan = omega arith
number_above File = omega arith
number_above Room = omega arith
