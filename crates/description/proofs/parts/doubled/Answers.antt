-- `doubled` is mid: what the mode makes of the bottleneck.
use Rattle.description.specs.Parts.{mid}
use native.Mathlib.Omega.{arith}
use Rattle.description.proofs.parts.doubled.Goals as goal

pub input_rows-requires : goal.input_rows-requires
input_rows-requires c = omega (arith, c.requires.bottleneck.most)

pub returns : goal.returns
unfolding mid
returns c = c.input_rows.ensures
