use Rattle.gating.specs.declared.Mode.{Mode}
use Rattle.lists.proofs.Fill.{length-fill}
use Rattle.gating.specs.Joined.{input_rows}
use Rattle.gating.proofs.Steps.{rows_least, none_is, gated_is, blended_is}
use mathlib.Core.Path.{◌∙◌, ap}
use native.Mathlib.Omega.{arith}
use lib.ListN.{length}
use Rattle.gating.proofs.gating.Goals as goal

pub overflow_add-g : goal.overflow_add-g
overflow_add-g c = record { fits = omega (arith, c.requires.before, c.requires.in_work, rows_least c.args.mode c.args.n) }

pub apply_over-requires : goal.apply_over-requires
apply_over-requires c = (omega (arith, c.requires.before, c.requires.in_work, rows_least c.args.mode c.args.n), omega (arith, c.requires.before, c.requires.in_work, rows_least c.args.mode c.args.n))

pub apply_over-requires-in-Gated : goal.apply_over-requires-in-Gated
unfolding input_rows
apply_over-requires-in-Gated c = (omega arith, omega (arith, c.requires.before, c.requires.in_work, rows_least c.args.mode c.args.n, ap (λ (m : Mode). input_rows m c.args.n) c.in-Gated.is, ap length c.apply_over.ensures ∙ length-fill _ _ _ _))

pub scale_by-requires : goal.scale_by-requires
unfolding input_rows
scale_by-requires c = (omega (arith, c.requires.before, c.requires.in_work, rows_least c.args.mode c.args.n), omega (arith, c.requires.before, c.requires.in_work, rows_least c.args.mode c.args.n, ap (λ (m : Mode). input_rows m c.args.n) c.in-Gated.is, ap length c.apply_over.ensures ∙ length-fill _ _ _ _, ap length c.apply_over-in-Gated.ensures ∙ length-fill _ _ _ _))

pub apply_over-requires-in-Blended : goal.apply_over-requires-in-Blended
unfolding input_rows
apply_over-requires-in-Blended c = (omega arith, omega (arith, c.requires.before, c.requires.in_work, rows_least c.args.mode c.args.n, ap (λ (m : Mode). input_rows m c.args.n) c.in-Blended.is, ap length c.apply_over.ensures ∙ length-fill _ _ _ _))

pub blend_by-requires : goal.blend_by-requires
unfolding input_rows
blend_by-requires c = (omega (arith, c.requires.before, c.requires.in_work, rows_least c.args.mode c.args.n), omega arith, omega (arith, c.requires.before, c.requires.in_work, rows_least c.args.mode c.args.n, ap (λ (m : Mode). input_rows m c.args.n) c.in-Blended.is, ap length c.apply_over.ensures ∙ length-fill _ _ _ _, ap length c.apply_over-in-Blended.ensures ∙ length-fill _ _ _ _))

pub returns-in-None : goal.returns-in-None
returns-in-None c = rw c.in-None.is (none_is _ _ _ _ _ _ c.requires.before (omega (arith, c.requires.before, c.requires.in_work, rows_least c.args.mode c.args.n)) _ c.apply_over.ensures)

pub returns-in-Gated : goal.returns-in-Gated
unfolding input_rows
returns-in-Gated c = rw c.in-Gated.is (gated_is _ _ _ _ _ _ c.requires.before (omega (arith, c.requires.before, c.requires.in_work, rows_least c.args.mode c.args.n)) _ c.apply_over.ensures (omega (arith, c.requires.before, c.requires.in_work, rows_least c.args.mode c.args.n, ap (λ (m : Mode). input_rows m c.args.n) c.in-Gated.is)) _ c.apply_over-in-Gated.ensures _ c.scale_by.ensures)

pub returns-in-Blended : goal.returns-in-Blended
unfolding input_rows
returns-in-Blended c = rw c.in-Blended.is (blended_is _ _ _ _ _ _ c.requires.before (omega (arith, c.requires.before, c.requires.in_work, rows_least c.args.mode c.args.n)) _ c.apply_over.ensures (omega (arith, c.requires.before, c.requires.in_work, rows_least c.args.mode c.args.n, ap (λ (m : Mode). input_rows m c.args.n) c.in-Blended.is)) _ c.apply_over-in-Blended.ensures _ c.blend_by.ensures)
