-- A space, and then the digits.
use mathlib.Core.Path.{◌∙◌}
use Rattle.lines.specs.Text.{spaced_of}
use Rattle.lines.proofs.Lining.{printed_next}
use Rattle.lines.proofs.Page.put_number.Goals as goal

pub returns : goal.returns
unfolding spaced_of
returns c =
    record { same_reference = c.put_hex.ensures.same_reference ∙ c.put.ensures.same_reference; wrote = printed_next c.put.ensures.wrote (rw c.to_bits.ensures at c.put_hex.ensures.wrote) }
