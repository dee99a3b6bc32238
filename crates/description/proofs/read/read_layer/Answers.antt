-- `read_layer` refuses the range where a range or a zero rule is broken, else it answers the record (Answering).
use mathlib.Core.Path.{sym, ◌∙◌}
use Rattle.description.specs.Limits.{layer_limits}
use Rattle.description.proofs.Answering.{broken_range, broken_zeros, whole}
use Rattle.description.proofs.read.read_layer.Goals as goal
use Rattle.description.proofs.read.read_layer.Goals.{then-breaks_range-via-then-breaks_range, then-breaks_range-via-else-breaks_range+then-breaks_zero_rule}

pub returns-then-breaks_range : goal.returns-then-breaks_range
unfolding layer_limits
returns-then-breaks_range c =
    let args = c.args in
    elim c.then-breaks_range.branch [
      | then-breaks_range-via-then-breaks_range w ↦ broken_range args.description.now args.l (sym c.breaks_range.ensures ∙ w.if-breaks_range.true)
      | then-breaks_range-via-else-breaks_range+then-breaks_zero_rule w ↦ broken_zeros args.description.now args.l (sym w.breaks_zero_rule.ensures ∙ w.if-breaks_zero_rule.true)
    ]

pub returns : goal.returns
unfolding layer_limits
returns c =
    let args = c.args in
    whole args.description.now args.l (sym c.breaks_range.ensures ∙ c.if-breaks_range.false)
    (sym c.breaks_zero_rule.ensures ∙ c.if-breaks_zero_rule.false)
    c.layer_record.ensures
