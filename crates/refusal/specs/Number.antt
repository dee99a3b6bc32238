-- The numbers of the refusals. Document 01, 'Refusal numbers'.
use Rattle.std.specs.Prelude.{ℕ, Result, Ok, Err}
use Rattle.refusal.specs.declared.Refusal.{Refusal}
use Rattle.refusal.specs.declared.Refusal.TheVariants.{DescriptionLength, Range, Groups, Widths, TooLarge, BlockSize, BufferLength, Position, Plan, File, Room}

abbrev pub number : Refusal → ℕ
number DescriptionLength = 1
number Range = 2
number Groups = 3
number Widths = 4
number TooLarge = 5
number BlockSize = 6
number BufferLength = 7
number Position = 8
number Plan = 9
number File = 10
number Room = 11

-- the number of an answer: 0 where nothing is refused
abbrev pub number_of : {T : Type 0} → Result T Refusal → ℕ
number_of (Ok value) = 0
number_of (Err refusal) = number refusal
