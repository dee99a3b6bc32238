-- `check` meets its contract. The loop's invariant: no layer passed is broken, and the tally is that of the layers passed. A broken layer answers 2 at
-- once; the tally of all layers gives 3, 4, 5 or the sizes (Answering).
use mathlib.Core.Path.{subst, ◌≡◌, refl, sym, ◌∙◌, ap}
use Prim.Native.Nat.{◌≤◌}
use native.Mathlib.Omega.{arith}
use borrow.Author.Rules.{rules}
use Rattle.refusal.proofs.PassedOn.{passed_on}
use Rattle.description.specs.Answers.{LayerAnswers}
use Rattle.description.specs.Limits.{array_limits}
use Rattle.description.specs.Numbers.{layer_count}
use Rattle.description.specs.Ranges.{ArrayRanges, LayerRanges}
use Rattle.description.specs.Tally.{LowTally, start_of}
use Rattle.description.specs.Tests.{any_below}
use Rattle.description.proofs.Answering.{whole_answer, broken_array, kept_layer, kept_more, layer_refused, long_enough, mislaid, read_whole, short}
use Rattle.description.proofs.Passing.{tally_step, tally_at, tally_low}
use Rattle.description.proofs.Ranging.{array_ranges, layer_ranges, layers_between}
use Rattle.description.proofs.check.check.Goals as goal

pub returns-then-n-lt-HEAD_LENGTH : goal.returns-then-n-lt-HEAD_LENGTH
returns-then-n-lt-HEAD_LENGTH c = short c.args.description.now c.if-n-lt-HEAD_LENGTH.true

pub overflow_mul-layers : goal.overflow_mul-layers
overflow_mul-layers c = omega (arith, c.shared_slice_known-1.given 7)

pub overflow_add-layers : goal.overflow_add-layers
overflow_add-layers c = omega (arith, c.shared_slice_known-1.given 7)

pub returns-then-n-layers : goal.returns-then-n-layers
returns-then-n-layers c = mislaid c.args.description.now c.if-n-layers.true

pub returns-then-breaks_range : goal.returns-then-breaks_range
unfolding array_limits
returns-then-breaks_range c =
    let args = c.args in
    broken_array args.description.now (long_enough args.description.now c.if-n-lt-HEAD_LENGTH.false c.if-n-layers.false) (sym c.breaks_range.ensures ∙ c.if-breaks_range.true)

pub start-tally-requires : goal.start-tally-requires
unfolding array_limits
start-tally-requires c = subst ArrayRanges (sym c.read_array-a.ensures) (array_ranges c.args.description.now (sym c.breaks_range.ensures ∙ c.if-breaks_range.false))

pub loop-l-init : goal.loop-l-init
unfolding array_limits any_below tally_at
loop-l-init c =
    let if2 = c.if-n-layers in (
      search rules,
      refl,
      long_enough c.args.description.now c.if-n-lt-HEAD_LENGTH.false if2.false,
      if2.false,
      c.read_array-a.ensures,
      sym c.breaks_range.ensures ∙ c.if-breaks_range.false,
      refl,
      c.start-tally.ensures ∙ ap start_of c.read_array-a.ensures,
    )

pub read_layer-requires : goal.read_layer-requires
read_layer-requires c = omega arith

pub returns-in_err-r : goal.returns-in_err-r
returns-in_err-r c =
    let loop = c.loop-l in
    rw (passed_on c.from_residual.result c.from_residual.ensures) (layer_refused c.args.description.now loop.l loop.invariant.2 (omega arith) c.read_layer.ensures c.in_err-r.was)

pub with_layer-tally-requires : goal.with_layer-tally-requires
with_layer-tally-requires c =
    let args = c.args in
    let loop = c.loop-l in
    let w = read_whole args.description.now loop.l (subst (LayerAnswers args.description.now loop.l) c.in_ok-r.was c.read_layer.ensures) in
    let le : loop.l ≤ 24 = omega (arith, loop.invariant.0, loop.invariant.1, (layers_between args.description.now loop.invariant.5).most) in record { low_tally = subst LowTally (sym loop.invariant.7) (tally_low args.description.now (array_ranges args.description.now loop.invariant.5) loop.l le (kept_layer args.description.now loop.l loop.invariant.6)); array_ranges = subst ArrayRanges (sym loop.invariant.4) (array_ranges args.description.now loop.invariant.5); layer_ranges = subst LayerRanges (sym w.1) (layer_ranges args.description.now loop.l w.0) }

pub loop-l-preserved : goal.loop-l-preserved
loop-l-preserved c =
    let args = c.args in
    let loop = c.loop-l in
    let w = read_whole args.description.now loop.l (subst (LayerAnswers args.description.now loop.l) c.in_ok-r.was c.read_layer.ensures) in (
      search rules,
      loop.invariant.1,
      loop.invariant.2,
      loop.invariant.3,
      loop.invariant.4,
      loop.invariant.5,
      kept_more args.description.now loop.l loop.invariant.6 w.0,
      c.with_layer-tally.ensures ∙ tally_step args.description.now loop.l loop.invariant.7 loop.invariant.4 w.1,
    )

pub answer-requires : goal.answer-requires
answer-requires c =
    let args = c.args in
    let le : c.loop-l.l ≤ 24 = omega (arith, c.loop-l.invariant.0, c.loop-l.invariant.1, (layers_between args.description.now c.loop-l.invariant.5).most) in record { low_tally = subst LowTally (sym c.loop-l.invariant.7) (tally_low args.description.now (array_ranges args.description.now c.loop-l.invariant.5) c.loop-l.l le (kept_layer args.description.now c.loop-l.l c.loop-l.invariant.6)); array_ranges = subst ArrayRanges (sym c.loop-l.invariant.4) (array_ranges args.description.now c.loop-l.invariant.5) }

pub returns : goal.returns
returns c =
    let args = c.args in
    let loop = c.loop-l in
    let e : loop.l ≡ layer_count args.description.now = omega (arith, loop.invariant.0, loop.invariant.1, c.loop-l-test.false) in
    whole_answer args.description.now loop.l e loop.invariant.2 loop.invariant.5 loop.invariant.6 c.answer.ensures loop.invariant.7 loop.invariant.4
