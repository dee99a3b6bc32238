-- Text, number, newline, one after the other (Lining).
use native.Mathlib.Omega.{arith}
use borrow.Author.Rules.{rules}
use lib.ListN.{length}
use Prim.Native.Nat.{◌+◌}
use Rattle.lines.proofs.Writing.{ten_places}
use Rattle.lines.proofs.Lining.{named_done, printed_as, room_left}
use Rattle.lines.proofs.put_named.Goals as goal

pub put_decimal-requires : goal.put_decimal-requires
put_decimal-requires c =
    omega (arith, room_left {p = 0} (length c.args.text.now + 11) 11 (omega (arith, c.requires.1)) c.put_text.ensures.wrote (omega arith), ten_places c.args.n (omega (arith, c.requires.0)))

pub put-requires : goal.put-requires
put-requires c =
    let after_text = room_left {p = 0} (length c.args.text.now + 11) 11 (omega (arith, c.requires.1)) c.put_text.ensures.wrote (omega arith) in
    room_left 11 1 after_text c.put_decimal.ensures.wrote (omega (arith, ten_places c.args.n (omega (arith, c.requires.0))))

pub returns : goal.returns
returns c = printed_as (named_done _ _ c.put_text.ensures.wrote c.put_decimal.ensures.wrote c.put.ensures.wrote) (search rules)
