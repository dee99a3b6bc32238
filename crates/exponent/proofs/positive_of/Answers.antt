-- `positive_of` is 0 for a negative number and the number itself otherwise.
use mathlib.Core.Path.{◌≡◌, refl, ◌∙◌}
use native.Mathlib.Omega.{arith}
use lib.IntN.{pos}
use mir.Facts.{to_z-of_z}
use Rattle.exponent.specs.Exp.{positive}
use Rattle.exponent.proofs.Signed.{back, max_is}
use Rattle.exponent.proofs.positive_of.Goals as goal

pub overflow_cast-result : goal.overflow_cast-result
overflow_cast-result c =
    let e : c.max.result ≡ pos (positive c.args.z) = rw (to_z-of_z c.ranges.z) at c.max.ensures.value ∙ max_is c.args.z in
    let small = rw e at c.max.type_inv in
    rw (back c.max.result c.max.type_inv, e) (tt, record { fits = omega (arith, small) })

pub returns : goal.returns
returns c =
    let e : c.max.result ≡ pos (positive c.args.z) = rw (to_z-of_z c.ranges.z) at c.max.ensures.value ∙ max_is c.args.z in
    rw (back c.max.result c.max.type_inv, e) refl
