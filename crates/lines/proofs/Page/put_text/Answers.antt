-- The part that was copied over (Lining).
use mathlib.Core.Path.{refl}
use native.Mathlib.Omega.{arith}
use Rattle.lines.proofs.Lining.{printed_part}
use Rattle.lines.proofs.Page.put_text.Goals as goal

pub returns : goal.returns
returns c = record { same_reference = refl; wrote = printed_part _ _ _ c.requires (omega arith) c.copy_from_slice.ensures.after }
