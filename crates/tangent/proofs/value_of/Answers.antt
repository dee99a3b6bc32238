-- `value_of` is the definition's quintic: each step is the definition's, its numbers stay small, and the last is not negative, by proofs/Range.antt.
--
use native.Mathlib.Omega.{arith}
use Rattle.tangent.specs.Tanh.{slope_at}
use Rattle.tangent.proofs.Steps.{made, passed, passed_small, next}
use Rattle.tangent.proofs.Range.{value_positive, value_le, value_is}
use Rattle.tangent.proofs.value_of.Goals as goal

pub step_of-v4-requires : goal.step_of-v4-requires
step_of-v4-requires c =
    let v5 = made c.number_of-2.ensures in
    (c.requires.1, omega arith, omega arith, passed_small (made c.number_of.ensures) (omega arith) (omega arith), passed_small v5 (omega arith) (omega arith))

pub step_of-v3-requires : goal.step_of-v3-requires
step_of-v3-requires c =
    let v5 = made c.number_of-2.ensures in
    let v4 = next _ 21 (made c.number_of.ensures) v5 (omega arith) c.step_of-v4.ensures in
    (c.requires.1, omega arith, omega arith, passed_small (made c.number_of-3.ensures) (omega arith) (omega arith), passed_small v4 (omega arith) (omega arith))

pub step_of-v2-requires : goal.step_of-v2-requires
step_of-v2-requires c =
    let v5 = made c.number_of-2.ensures in
    let v4 = next _ 21 (made c.number_of.ensures) v5 (omega arith) c.step_of-v4.ensures in
    let v3 = next _ 21 (made c.number_of-3.ensures) v4 (omega arith) c.step_of-v3.ensures in
    (c.requires.1, omega arith, omega arith, passed_small (made c.number_of-4.ensures) (omega arith) (omega arith), passed_small v3 (omega arith) (omega arith))

pub step_of-v1-requires : goal.step_of-v1-requires
step_of-v1-requires c =
    let v5 = made c.number_of-2.ensures in
    let v4 = next _ 21 (made c.number_of.ensures) v5 (omega arith) c.step_of-v4.ensures in
    let v3 = next _ 21 (made c.number_of-3.ensures) v4 (omega arith) c.step_of-v3.ensures in
    let v2 = next _ 21 (made c.number_of-4.ensures) v3 (omega arith) c.step_of-v2.ensures in
    (c.requires.1, omega arith, omega arith, passed_small (made c.number_of-5.ensures) (omega arith) (omega arith), passed_small v2 (omega arith) (omega arith))

pub step_of-requires : goal.step_of-requires
step_of-requires c =
    let v5 = made c.number_of-2.ensures in
    let v4 = next _ 21 (made c.number_of.ensures) v5 (omega arith) c.step_of-v4.ensures in
    let v3 = next _ 21 (made c.number_of-3.ensures) v4 (omega arith) c.step_of-v3.ensures in
    let v2 = next _ 21 (made c.number_of-4.ensures) v3 (omega arith) c.step_of-v2.ensures in
    let v1 = next _ 21 (made c.number_of-5.ensures) v2 (omega arith) c.step_of-v1.ensures in
    (c.requires.1, omega arith, omega arith, passed_small (made c.number_of-6.ensures) (omega arith) (omega arith), passed_small v1 (omega arith) (omega arith))

pub overflow_cast-result : goal.overflow_cast-result
unfolding slope_at
overflow_cast-result c =
    let start = c.before.before.before.before.before.before.before.before.before.before.before in
    let v5 = made c.number_of-2.ensures in
    let v4 = next _ 21 (made c.number_of.ensures) v5 (omega arith) c.step_of-v4.ensures in
    let v3 = next _ 21 (made c.number_of-3.ensures) v4 (omega arith) c.step_of-v3.ensures in
    let v2 = next _ 21 (made c.number_of-4.ensures) v3 (omega arith) c.step_of-v2.ensures in
    let v1 = next _ 21 (made c.number_of-5.ensures) v2 (omega arith) c.step_of-v1.ensures in
    let v0 = next _ 24 (made c.number_of-6.ensures) v1 (omega arith) c.step_of.ensures in
    rw (passed v0 (omega arith), v0.is) (value_positive start.args.i start.args.d start.requires.0 start.requires.1, record { fits = omega (arith, value_is start.args.i start.args.d start.requires.0 start.requires.1, value_le start.args.i start.args.d start.requires.0 start.requires.1) })

pub returns : goal.returns
unfolding slope_at
returns c =
    let start = c.before.before.before.before.before.before.before.before.before.before.before in
    let v5 = made c.number_of-2.ensures in
    let v4 = next _ 21 (made c.number_of.ensures) v5 (omega arith) c.step_of-v4.ensures in
    let v3 = next _ 21 (made c.number_of-3.ensures) v4 (omega arith) c.step_of-v3.ensures in
    let v2 = next _ 21 (made c.number_of-4.ensures) v3 (omega arith) c.step_of-v2.ensures in
    let v1 = next _ 21 (made c.number_of-5.ensures) v2 (omega arith) c.step_of-v1.ensures in
    let v0 = next _ 24 (made c.number_of-6.ensures) v1 (omega arith) c.step_of.ensures in
    rw (passed v0 (omega arith), v0.is) (value_is start.args.i start.args.d start.requires.0 start.requires.1)
