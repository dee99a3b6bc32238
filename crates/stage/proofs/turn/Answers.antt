-- Each of the three ways is a turn of stage k, whose number is told by what the stage is (Numbered).
use mathlib.Core.Path.{sym, ◌∙◌, ap}
use Prim.Native.Nat.{ℕ, suc}
use native.Mathlib.Omega.{arith}
use Rattle.description.proofs.Sound.{length_is, layers_of}
use Rattle.array.specs.Turn.{start_of}
use Rattle.stage.proofs.Numbered.{first_is, layer_is, last_is}
use Rattle.stage.proofs.Turning.{fits_as, taken_as}
use Rattle.stage.proofs.turn.Goals as goal

pub read_array-a-requires : goal.read_array-a-requires
read_array-a-requires c = omega (arith, length_is c.args.sources.now.description.now c.requires.stage_fits.sound)

pub rechannel_turn-requires-clause-stage_fits : goal.rechannel_turn-requires-clause-stage_fits
rechannel_turn-requires-clause-stage_fits c =
    let k = first_is _ _ c.stage_at.ensures c.in-Rechannel.is in
    fits_as c.args.sources.now c.args.buffers.now c.args.scratch.now c.args.span c.args.start 0 c.requires.stage_fits (sym k)

pub rechannel_turn-requires-clause-input_len : goal.rechannel_turn-requires-clause-input_len
rechannel_turn-requires-clause-input_len c = (c.requires.blocks_fit.input_is, c.requires.blocks_fit.head_in_is)

pub layer_turn-requires-clause-condition_len : goal.layer_turn-requires-clause-condition_len
layer_turn-requires-clause-condition_len c = c.requires.blocks_fit.condition_is

pub head_turn-requires-clause-head_out_len : goal.head_turn-requires-clause-head_out_len
head_turn-requires-clause-head_out_len c = (c.requires.blocks_fit.head_out_is, c.requires.blocks_fit.array_out_is)

pub layer_turn-requires-clause-stage_fits : goal.layer_turn-requires-clause-stage_fits
layer_turn-requires-clause-stage_fits c =
    let k = layer_is _ _ c.in-Layer.l c.stage_at.ensures c.in-Layer.is in
    fits_as c.args.sources.now c.args.buffers.now c.args.scratch.now c.args.span c.args.start (suc c.in-Layer.l) c.requires.stage_fits (sym k.1)

pub layer_turn-requires-clause-l_bound : goal.layer_turn-requires-clause-l_bound
layer_turn-requires-clause-l_bound c =
    let k = layer_is _ _ c.in-Layer.l c.stage_at.ensures c.in-Layer.is in
    omega (arith, k.0, layers_of c.args.sources.now.description.now c.read_array-a.ensures)

pub head_turn-requires-clause-stage_fits : goal.head_turn-requires-clause-stage_fits
head_turn-requires-clause-stage_fits c =
    let layers = layers_of c.args.sources.now.description.now c.read_array-a.ensures in
    let k = last_is _ _ c.stage_at.ensures c.in-HeadRechannel.is (omega (arith, layers, c.requires.stage_fits.stage_in)) in
    fits_as c.args.sources.now c.args.buffers.now c.args.scratch.now c.args.span c.args.start _ c.requires.stage_fits (sym k ∙ ap suc layers)

pub returns-in-Rechannel-clause-value : goal.returns-in-Rechannel-clause-value
returns-in-Rechannel-clause-value c =
    let k = first_is _ _ c.stage_at.ensures c.in-Rechannel.is in
    c.rechannel_turn.ensures.value ∙ ap (λ (j : ℕ). start_of c.args.sources.now.description.now (suc j)) k

pub returns-in-Rechannel-clause-turn_done : goal.returns-in-Rechannel-clause-turn_done
returns-in-Rechannel-clause-turn_done c =
    let k = first_is _ _ c.stage_at.ensures c.in-Rechannel.is in
    taken_as c.args.sources.now c.args.buffers.now c.args.scratch.now c.rechannel_turn.new.buffers c.rechannel_turn.new.scratch c.args.span c.rechannel_turn.ensures.turn_done k

pub returns-in-Layer-clause-value : goal.returns-in-Layer-clause-value
returns-in-Layer-clause-value c =
    let k = layer_is _ _ c.in-Layer.l c.stage_at.ensures c.in-Layer.is in
    c.layer_turn.ensures.value ∙ ap (λ (j : ℕ). start_of c.args.sources.now.description.now (suc j)) k.1

pub returns-in-Layer-clause-turn_done : goal.returns-in-Layer-clause-turn_done
returns-in-Layer-clause-turn_done c =
    let k = layer_is _ _ c.in-Layer.l c.stage_at.ensures c.in-Layer.is in
    taken_as c.args.sources.now c.args.buffers.now c.args.scratch.now c.layer_turn.new.buffers c.layer_turn.new.scratch c.args.span c.layer_turn.ensures.turn_done k.1

pub returns-in-HeadRechannel-clause-value : goal.returns-in-HeadRechannel-clause-value
returns-in-HeadRechannel-clause-value c =
    let layers = layers_of c.args.sources.now.description.now c.read_array-a.ensures in
    let k = last_is _ _ c.stage_at.ensures c.in-HeadRechannel.is (omega (arith, layers, c.requires.stage_fits.stage_in)) in
    c.head_turn.ensures.value ∙ ap (λ (j : ℕ). start_of c.args.sources.now.description.now (suc j)) (ap suc (sym layers) ∙ k)

pub returns-in-HeadRechannel-clause-turn_done : goal.returns-in-HeadRechannel-clause-turn_done
returns-in-HeadRechannel-clause-turn_done c =
    let layers = layers_of c.args.sources.now.description.now c.read_array-a.ensures in
    let k = last_is _ _ c.stage_at.ensures c.in-HeadRechannel.is (omega (arith, layers, c.requires.stage_fits.stage_in)) in
    taken_as c.args.sources.now c.args.buffers.now c.args.scratch.now c.head_turn.new.buffers c.head_turn.new.scratch c.args.span c.head_turn.ensures.turn_done (ap suc (sym layers) ∙ k)
