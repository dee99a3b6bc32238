use Rattle.description.proofs.Facts.{sound_only, refused_only}
use Rattle.description.specs.Answers.{listed}
use Rattle.wavenet.proofs.Sizes.{sizes_small}
use mathlib.Core.Path.{sym, ◌∙◌, ap}
use Rattle.wavenet.proofs.wavenet_sizes.Goals as goal

pub numbers-requires : goal.numbers-requires
numbers-requires c = let a = sound_only c.args.description.now (rw c.in-Ok.is at c.sizes.ensures) in rw a.1 (sizes_small c.args.description.now a.0)

pub returns-in-Err : goal.returns-in-Err
returns-in-Err c = let a = refused_only c.args.description.now (rw c.in-Err.is at c.sizes.ensures) in record { value = c.from.ensures ∙ a.0; sizes_after = rw (c.from.ensures, a.0, a.1) }

pub returns-in-Ok : goal.returns-in-Ok
returns-in-Ok c = let a = sound_only c.args.description.now (rw c.in-Ok.is at c.sizes.ensures) in record { value = sym a.0; sizes_after = c.numbers.ensures ∙ ap listed a.1 }
