-- The table's entry.
use Rattle.lines.proofs.Writing.{digit_at}
use Rattle.lines.proofs.hex_digit.Goals as goal

pub returns : goal.returns
returns c = digit_at c.args.d c.requires
