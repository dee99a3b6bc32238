-- The bits are the word's.
use mathlib.Core.Path.{◌∙◌, ap}
use lib.Ieee.{of_bits, binary32}
use Rattle.wna.specs.Words.{float_at}
use Rattle.wna.proofs.words.float.Goals as goal

pub returns : goal.returns
unfolding float_at
returns c = c.from_bits.ensures ∙ ap (of_bits binary32) c.word.ensures
