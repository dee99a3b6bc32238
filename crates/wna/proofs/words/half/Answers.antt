-- Two bytes.
use native.Mathlib.Omega.{arith}
use Rattle.wna.specs.Words.{half_at}
use Rattle.wna.proofs.words.half.Goals as goal

pub returns : goal.returns
unfolding half_at
returns c = omega (arith, c.from_le_bytes.ensures)
