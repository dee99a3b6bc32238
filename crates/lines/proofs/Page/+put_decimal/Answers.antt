-- The digits of n / 10, where there are any, and then the last. The measure is n.
use mathlib.Core.Path.{refl, ◌∙◌}
use Prim.Native.Nat.{◌+◌, ◌%◌}
use native.Mathlib.Omega.{arith}
use Rattle.lines.proofs.Writing.{length_more, length_small}
use Rattle.lines.proofs.Lining.{decimal_last, decimal_only, byte_is, room_left}
use Rattle.lines.proofs.Page.+put_decimal.Goals as goal
use Rattle.lines.proofs.Page.+put_decimal.Goals.{then-n-ge10, else-n-ge10}

pub put_decimal-requires : goal.put_decimal-requires
put_decimal-requires t c = (omega (arith, c.decreases, c.if-n-ge10.true), omega (arith, length_more c.args.n c.if-n-ge10.true, c.requires))

pub put-requires : goal.put-requires
put-requires t c =
    elim c.if-n-ge10.branch [
      | then-n-ge10 w ↦ rw w.self-is (room_left _ 1 c.requires w.put_decimal.ensures.wrote (omega (arith, length_more c.args.n w.if-n-ge10.true)))
      | else-n-ge10 w ↦ rw w.self-is (omega (arith, length_small c.args.n w.if-n-ge10.false, c.requires))
    ]

pub returns-clause-same_reference : goal.returns-clause-same_reference
returns-clause-same_reference t c =
    elim c.if-n-ge10.branch [
      | then-n-ge10 w ↦ c.put.ensures.same_reference ∙ rw w.self-is w.put_decimal.ensures.same_reference
      | else-n-ge10 w ↦ c.put.ensures.same_reference ∙ rw w.self-is refl
    ]

pub returns-clause-wrote : goal.returns-clause-wrote
returns-clause-wrote t c =
    let put = byte_is _ (48 + c.args.n % 10) c.put.ensures.wrote (grind arith) in
    elim c.if-n-ge10.branch [
      | then-n-ge10 w ↦ decimal_last _ w.if-n-ge10.true w.put_decimal.ensures.wrote (rw w.self-is at put)
      | else-n-ge10 w ↦ decimal_only _ w.if-n-ge10.false (rw w.self-is at put)
    ]
