-- What `calls::planned` promises is what is promised here: the buffers stay the same borrows.
use mathlib.Core.Path.{refl}
use borrow.Author.Rules.{rules}
use Rattle.calls.proofs.Handed.{handed}
use Rattle.wavenet.proofs.wavenet_planned.Goals as goal

pub returns : goal.returns
returns c = handed c.planned.ensures.answers c.answer.ensures (search rules) (search rules) (search rules) (search rules) refl
