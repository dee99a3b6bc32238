-- One row more (Planar).
use mathlib.Core.Path.{◌≡◌, refl, ◌∙◌, ap}
use Prim.Native.Nat.{◌+◌, ◌*◌}
use native.Mathlib.Omega.{arith}
use borrow.Author.Rules.{rules}
use lib.Ieee.{nan}
use lib.ListN.{length}
use Rattle.lists.proofs.Fill.{length-fill}
use Rattle.lists.proofs.Nums.{row_end}
use Rattle.lists.proofs.Rows.{rows_none}
use Rattle.wna.specs.Columns.{number_at}
use Rattle.wna.proofs.Planar.{planar_more, row_filled, spread_done}
use Rattle.wna.proofs.columns.spread.Goals as goal

pub loop-c-init : goal.loop-c-init
loop-c-init c = (search rules, refl, rows_none _ _ _ _ _)

pub loop-c-preserved : goal.loop-c-preserved
unfolding number_at
loop-c-preserved c =
    let row = row_filled nan c.loop-c.dst c.fill_by.new.out (c.loop-c.c * c.args.n) c.args.n _ (λ t. number_at c.args.bytes.now c.args.width t (c.args.k + c.loop-c.c))
    (omega (arith, row_end c.loop-c.c c.args.w c.args.n c.loop-c-test.true, c.requires.0, c.loop-c.invariant.1)) (omega arith) c.fill_by.auto.out (λ i lt. let h = c.fill_by.ensures nan i lt in search rules) in
    (search rules, ap length row ∙ length-fill _ _ _ _ ∙ c.loop-c.invariant.1, planar_more _ _ _ _ _ _ c.loop-c.invariant.2 row)

pub returns : goal.returns
returns c = let e : c.loop-c.c ≡ c.args.w = omega arith in spread_done _ _ _ _ _ _ _ (rw e at c.loop-c.invariant.2) c.requires.0
