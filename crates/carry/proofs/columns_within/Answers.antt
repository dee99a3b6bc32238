use mathlib.Core.Logic.{inl, inr}
use Rattle.carry.proofs.Split.{front_told, back_told}
use Rattle.lists.proofs.Nums.{row_end}
use Rattle.lists.proofs.Rows.{rows_none, rows_narrow}
use native.Mathlib.Omega.{arith}
use Rattle.carry.proofs.columns_within.Goals as goal
use Rattle.carry.proofs.columns_within.Goals.{then-w-eq0-via-then-w-eq0, then-w-eq0-via-else-w-eq0+then-m-eq0}

pub returns-then-w-eq0 : goal.returns-then-w-eq0
returns-then-w-eq0 c = elim c.then-w-eq0.either [ inl e ↦ rw e (rows_none _ _ _ _ _) | inr e ↦ rw e.1 (rows_narrow _ _ _ _ _) ]

pub returns-then-to-from : goal.returns-then-to-from
returns-then-to-from c =
    let split = c.split_at_mut-front.ensures in
    front_told c.args.to c.args.from c.args.n _ _ _ c.args.s c.args.m c.args.w _ _ _ _ split.value split.front_len
    (grind (arith, c.requires, row_end 0 c.args.w c.args.n (omega arith))) (grind arith)
    c.columns.ensures (grind arith) (grind arith) (grind arith)

pub returns-else-to-from : goal.returns-else-to-from
returns-else-to-from c =
    let split = c.split_at_mut-front-else-to-from.ensures in
    back_told c.args.to c.args.from c.args.n _ _ _ c.args.s c.args.m c.args.w _ _ _ _ split.value split.front_len
    (grind (arith, c.requires, row_end 0 c.args.w c.args.s (omega arith))) (grind arith)
    c.columns-else-to-from.ensures (grind arith) (grind arith) (grind arith)
