-- Copies in, a layer, copies back; Fitting gives each what it asks, and joins them into a turn of a layer.
use mathlib.Core.Path.{refl, sym, ◌∙◌, ap}
use Prim.Native.Nat.{◌*◌}
use native.Mathlib.Omega.{arith}
use Rattle.std.proofs.Common.{rules}
use Rattle.stage.proofs.Held.{layered_as}
use Rattle.description.proofs.Sound.{length_is}
use Rattle.description.specs.declared.records.ArrayRecord.{ArrayRecord}
use Rattle.stage.proofs.Fitting.{copy_fits, layer_fits, slots_fit, end_is, layer_turn, result_past}
use Rattle.stage.proofs.middle.layer_turn.Goals as goal

pub read_array-a-requires : goal.read_array-a-requires
read_array-a-requires c = omega (arith, length_is c.args.sources.now.description.now c.requires.stage_fits.sound)

pub layer_record-r-requires : goal.layer_record-r-requires
layer_record-r-requires c = omega (arith, length_is c.args.sources.now.description.now c.requires.stage_fits.sound, c.requires.l_bound)

pub slots_from-requires : goal.slots_from-requires
slots_from-requires c =
    let f = slots_fit c.args.sources.now.weights.now c.args.buffers.now.histories.now c.requires.stage_fits c.requires.l_bound c.read_array-a.ensures c.layer_record-r.ensures in
    record { array_ranges = f.0; layer_ranges = f.1; low = f.2 }

pub bring-requires : goal.bring-requires
bring-requires c =
    record { copy_fits = copy_fits c.requires.stage_fits c.read_array-a.ensures c.requires.stage_fits.scratch_is; condition_len = c.requires.condition_len ∙ ap (λ (a : ArrayRecord). a.condition * c.args.span.n) (sym c.read_array-a.ensures) }

pub play-result-requires : goal.play-result-requires
play-result-requires c =
    record {
      layer_fits = layer_fits c.args.sources.now.weights.now c.args.buffers.now.histories.now c.requires.stage_fits c.requires.l_bound c.read_array-a.ensures c.layer_record-r.ensures c.slots_from.ensures.0
          (c.bring.auto.scratch ∙ c.requires.stage_fits.scratch_is);
      slots_of = c.slots_from.ensures.1;
    }

pub hand_on-requires : goal.hand_on-requires
hand_on-requires c =
    record { copy_fits = copy_fits c.requires.stage_fits c.read_array-a.ensures (search rules ∙ c.play-result.ensures.layered.others.long ∙ c.bring.auto.scratch ∙ c.requires.stage_fits.scratch_is); size_bound = result_past c.args.span.size c.play-result.result c.play-result.ensures.layered.result_in }

pub returns : goal.returns
returns c =
    let t = layer_turn c.args.sources.now.weights.now c.args.buffers.now.histories.now c.requires.stage_fits c.requires.l_bound c.args.sources.now.condition.now _ _ _ _ refl
    c.read_array-a.ensures c.layer_record-r.ensures c.slots_from.ensures.0 c.bring.ensures (layered_as (search rules) (search rules) (search rules) c.play-result.ensures.layered) c.hand_on.ensures in
    record {
      value = c.slots_from.ensures.2 ∙ end_is c.args.sources.now.weights.now c.args.buffers.now.histories.now c.requires.stage_fits c.requires.l_bound c.read_array-a.ensures c.layer_record-r.ensures;
      turn_done = t.by _ _ _ _;
      placed = t.places;
      outputs_kept = (refl, refl);
      same = record {
        histories = refl;
        positions = refl;
        head_out = refl;
        array_out = refl;
        histories_long = search rules;
        positions_long = search rules;
        head_long = refl;
        array_long = refl;
      };
    }
