-- `reset` meets its contract: each way out by what its test told (Resetting).
use native.Mathlib.Omega.{arith}
use Rattle.refusal.proofs.PassedOn.{passed_on}
use Rattle.description.proofs.Sound.{length_is}
use Rattle.reset.specs.Resets.{silence_of}
use Rattle.reset.proofs.Resetting.{done, other_histories, other_positions, passed, positions_fit, refused}
use Rattle.reset.proofs.reset.Goals as goal

pub returns-in_err-sizes : goal.returns-in_err-sizes
returns-in_err-sizes c =
    let args = c.args in
    rw (passed_on c.from_residual.result c.from_residual.ensures) (refused args.description.now args.histories.now args.positions.now c.check.ensures c.in_err-sizes.was)

pub returns-then-histories-sizes : goal.returns-then-histories-sizes
returns-then-histories-sizes c =
    let args = c.args in
    other_histories args.description.now args.histories.now args.positions.now c.check.ensures c.in_ok-sizes.was c.if-histories-sizes.true

pub returns-then-positions-sizes : goal.returns-then-positions-sizes
returns-then-positions-sizes c =
    let args = c.args in
    other_positions args.description.now args.histories.now args.positions.now c.check.ensures c.in_ok-sizes.was c.if-positions-sizes.true

pub read_array-requires : goal.read_array-requires
read_array-requires c =
    let args = c.args in
    omega (arith, length_is args.description.now (passed args.description.now args.histories.now args.positions.now c.check.ensures c.in_ok-sizes.was c.if-histories-sizes.false c.if-positions-sizes.false))

pub rewind-requires : goal.rewind-requires
rewind-requires c =
    let args = c.args in
    let check = c.check in
    let if1 = c.if-histories-sizes in
    let if2 = c.if-positions-sizes in
    record { description_value = passed args.description.now args.histories.now args.positions.now check.ensures c.in_ok-sizes.was if1.false if2.false; a_value = c.read_array.ensures; positions_len = positions_fit args.description.now args.histories.now args.positions.now check.ensures c.in_ok-sizes.was if1.false if2.false }

pub returns : goal.returns
unfolding silence_of
returns c =
    let args = c.args in
    done args.description.now args.histories.now args.positions.now c.check.ensures c.in_ok-sizes.was c.if-histories-sizes.false c.if-positions-sizes.false (c.fill.ensures.after (λ y e. e)) c.rewind.ensures
