use Rattle.carry.proofs.Joined.{joined}
use mathlib.Core.Path.{◌≡◌}
use native.Mathlib.Omega.{arith}
use Rattle.carry.proofs.columns.Goals as goal

pub returns-then-m-n : goal.returns-then-m-n
returns-then-m-n c =
    let hs : c.args.m ≡ c.args.s = omega arith in let hn : c.args.m ≡ c.args.n = c.if-m-n.true in
    joined c.args.to c.args.s c.args.m c.args.from c.args.n c.args.w c.args.src.now _ _ hs hn c.row.ensures
