use Rattle.description.specs.Answers.{listed}
use mathlib.Core.Path.{refl}
use Rattle.wavenet.proofs.numbers.Goals as goal

pub returns : goal.returns
unfolding listed
returns c = refl
