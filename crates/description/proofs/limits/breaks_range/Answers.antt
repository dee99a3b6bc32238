-- `breaks_range` walks the table. The loop's invariant: the flag says whether a number passed lies outside its limits.
use mathlib.Core.Path.{refl}
use native.Mathlib.Omega.{arith}
use Rattle.description.specs.Limits.{breaks_range}
use Rattle.description.specs.Tests.{any_below}
use Rattle.description.proofs.Folds.{any_more, any_end}
use Rattle.description.proofs.limits.breaks_range.Goals as goal

pub loop-p-init : goal.loop-p-init
unfolding any_below
loop-p-init c = refl

pub loop-p-preserved : goal.loop-p-preserved
loop-p-preserved c = any_more _ _ c.loop-p.invariant

pub returns : goal.returns
unfolding breaks_range
returns c = any_end _ _ _ c.loop-p.invariant (omega arith)
