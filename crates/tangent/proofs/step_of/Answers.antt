-- `step_of` is the definition's step: its product and its sum fit, by proofs/Steps.antt.
use mathlib.Core.Path.{refl}
use mir.Facts.{to_z-of_z}
use Rattle.tangent.proofs.Steps.{Small, v_back, d_back, product_fits, machine_is, step_le, step_fits}
use Rattle.tangent.proofs.step_of.Goals as goal

pub overflow_mul-result : goal.overflow_mul-result
overflow_mul-result c =
    let h : Small c.args.d c.args.bits c.args.c c.args.v = record { short = c.requires.0; far = c.requires.1; entry = c.requires.3; small = c.requires.4 } in
    rw (v_back h, d_back h) (product_fits h)

pub overflow_add-result : goal.overflow_add-result
overflow_add-result c =
    let h : Small c.args.d c.args.bits c.args.c c.args.v = record { short = c.requires.0; far = c.requires.1; entry = c.requires.3; small = c.requires.4 } in
    rw (machine_is h) (step_fits h)

pub returns : goal.returns
returns c =
    let h : Small c.args.d c.args.bits c.args.c c.args.v = record { short = c.requires.0; far = c.requires.1; entry = c.requires.3; small = c.requires.4 } in
    rw (machine_is h, to_z-of_z (step_fits h)) (refl, step_le h)
