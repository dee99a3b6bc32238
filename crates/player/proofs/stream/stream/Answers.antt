use Rattle.std.proofs.Common.{arith}
use Rattle.player.proofs.Room.{heard_at, next_is, on_err, partly, partly_of, ready_on, same_on}
use Rattle.player.proofs.stream.stream.Goals as goal

pub turn-requires : goal.turn-requires
turn-requires g c =
    let next = next_is c.args.block c.loop-left.left c.next_block-n.ensures c.requires.le_block.0 c.loop-left-test.true in
    ready_on c.requires.ready next.within c.loop-left.invariant.heard (omega (arith, next.there, c.loop-left.invariant.counted, c.requires.le_block.1))
    (omega (arith, c.loop-left.auto.scratch, c.requires.ready.scratch_room)) (omega (arith, c.loop-left.invariant.same.text_long, c.requires.ready.text_room))

pub returns-in_err-played-clause-err : goal.returns-in_err-played-clause-err
returns-in_err-played-clause-err g c =
    let next = next_is c.args.block c.loop-left.left c.next_block-n.ensures c.requires.le_block.0 c.loop-left-test.true in
    on_err _ (partly_of c.in_err-played.ensures.err (omega (arith, next.there, c.loop-left.invariant.counted)))

pub returns-then-played-n-clause-ended : goal.returns-then-played-n-clause-ended
returns-then-played-n-clause-ended g c =
    let next = next_is c.args.block c.loop-left.left c.next_block-n.ensures c.requires.le_block.0 c.loop-left-test.true in
    record {
      played = _;
      heard = c.in_ok-played.ensures.heard.1;
      most = omega (arith, next.there, c.loop-left.invariant.counted, c.in_ok-played.ensures.heard.0);
      all = λ e. omega (arith, e);
    }

pub overflow_sub-left : goal.overflow_sub-left
overflow_sub-left g c =
    let next = next_is c.args.block c.loop-left.left c.next_block-n.ensures c.requires.le_block.0 c.loop-left-test.true in
    omega (arith, next.there, next.some)

pub loop-left-smaller : goal.loop-left-smaller
loop-left-smaller g c =
    let next = next_is c.args.block c.loop-left.left c.next_block-n.ensures c.requires.le_block.0 c.loop-left-test.true in
    omega (arith, next.there, next.some)

pub loop-left-preserved : goal.loop-left-preserved
loop-left-preserved g c =
    let next = next_is c.args.block c.loop-left.left c.next_block-n.ensures c.requires.le_block.0 c.loop-left-test.true in
    record {
      counted = omega (arith, next.there, c.loop-left.invariant.counted);
      same = same_on c.loop-left.invariant.same c.in_ok-played.ensures.same;
      heard = heard_at c.in_ok-played.ensures.heard.1 (omega (arith, next.there, c.loop-left.invariant.counted, c.in_ok-played.ensures.heard.0));
    }

pub returns-clause-err : goal.returns-clause-err
returns-clause-err g c = on_err _ (partly c.args.columns (omega arith) (heard_at c.loop-left.invariant.heard (omega arith)))
