-- Four bytes.
use mathlib.Core.Path.{◌≡◌}
use Prim.Native.Nat.{◌+◌}
use native.Mathlib.Omega.{arith}
use Rattle.wna.specs.Words.{half_at, word_at}
use Rattle.wna.proofs.words.word.Goals as goal

pub returns : goal.returns
unfolding half_at word_at
returns c = let last : c.args.at + 2 + 1 ≡ c.args.at + 3 = omega arith in rw last (omega (arith, c.from_le_bytes.ensures))
