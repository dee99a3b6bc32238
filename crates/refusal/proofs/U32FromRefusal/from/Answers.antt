-- The discriminants are the numbers of document 01.
use Rattle.std.proofs.Common.{◌≡◌, refl, ◌+◌}
use Rattle.refusal.specs.Number.{number}
use Rattle.refusal.specs.declared.Refusal.{Refusal}
use Rattle.refusal.specs.declared.Refusal.TheVariants.{DescriptionLength, Range, Groups, Widths, TooLarge, BlockSize, BufferLength, Position, Plan, File, Room}
use Rattle.refusal.specs.contracts.Refusal.{the_type}
use denote.Enum.Declared.{tag_of}
use Rattle.refusal.proofs.U32FromRefusal.from.Goals as goal

told : (refusal : Refusal) → tag_of the_type refusal + 1 ≡ number refusal
told DescriptionLength = refl
told Range = refl
told Groups = refl
told Widths = refl
told TooLarge = refl
told BlockSize = refl
told BufferLength = refl
told Position = refl
told Plan = refl
told File = refl
told Room = refl

pub returns : goal.returns
returns c = told c.args.refusal
