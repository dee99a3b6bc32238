-- `number_of` reads the number that the definition names, the code's rows and the specs' are the same list.
use mathlib.Core.Path.{refl}
use mir.Syntax.{w32}
use mir.Val.{SFits}
use mir.Facts.{to_z-of_z, sfits_widen}
use Rattle.tangent.specs.Rows.{rows}
use Rattle.tangent.specs.Tanh.{number}
use Rattle.tangent.proofs.Steps.{number_small}
use Rattle.tangent.proofs.number_of.Goals as goal

pub overflow_cast-result : goal.overflow_cast-result
unfolding number rows
overflow_cast-result c =
    let s = number_small c.args.i c.args.k c.requires.0 c.requires.1 in
    let f : SFits w32 (number c.args.i c.args.k) = record { sfits = s } in
    rw (to_z-of_z f) (sfits_widen tt f)

pub returns : goal.returns
unfolding number rows
returns c =
    let s = number_small c.args.i c.args.k c.requires.0 c.requires.1 in
    let f : SFits w32 (number c.args.i c.args.k) = record { sfits = s } in
    rw (to_z-of_z f, to_z-of_z (sfits_widen tt f)) (refl, s)
