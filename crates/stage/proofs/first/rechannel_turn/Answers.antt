-- Copies and one convolution; each asks what Widths gives, and Entry joins them into a turn of stage 0.
use mathlib.Core.Path.{refl, sym, ◌∙◌}
use native.Mathlib.Omega.{arith}
use Rattle.std.proofs.Common.{rules}
use Rattle.stage.proofs.Held.{played_as}
use Rattle.description.proofs.Sound.{length_is}
use Rattle.stage.proofs.Widths.{array_room_of, size_most, compact_in, first_in, second_in, first_apart, count_le, block_as, from_small, play_fits, past_fits}
use Rattle.stage.proofs.Entry.{entry_turn, rechannel_part, rechannel_widths, entry_at}
use Rattle.description.specs.declared.records.ArrayRecord.{ArrayRecord}
use Rattle.stage.proofs.first.rechannel_turn.Goals as goal

pub read_array-a-requires : goal.read_array-a-requires
read_array-a-requires c = omega (arith, length_is c.args.sources.now.description.now c.requires.stage_fits.sound)

pub overflow_mul-x : goal.overflow_mul-x
overflow_mul-x c = omega (arith, size_most c.requires.stage_fits)

pub overflow_mul-out : goal.overflow_mul-out
overflow_mul-out c = omega (arith, size_most c.requires.stage_fits)

pub overflow_mul-rows : goal.overflow_mul-rows
overflow_mul-rows c = omega (arith, size_most c.requires.stage_fits)

pub columns-requires : goal.columns-requires
columns-requires c = (
  compact_in c.requires.stage_fits (array_room_of c.requires.stage_fits c.read_array-a.ensures 0) c.requires.stage_fits.scratch_is 2 (omega arith),
  block_as c.requires.stage_fits (λ (a : ArrayRecord). a.input) c.read_array-a.ensures c.requires.input_len.0,
  omega arith,
  count_le c.requires.stage_fits,
)

pub play-requires : goal.play-requires
play-requires c =
    let is = sym c.rechannel-sh.ensures in
    let w = rechannel_widths c.args.sources.now.description.now c.requires.stage_fits.sound c.read_array-a.ensures is in
    play_fits c.requires.stage_fits 0 _ (rechannel_part c.args.sources.now.description.now c.read_array-a.ensures is) (entry_at c.requires.stage_fits) 2 (omega arith) (c.columns.auto.dst ∙ c.requires.stage_fits.scratch_is) w.0 w.1

pub columns_within-requires : goal.columns_within-requires
columns_within-requires c =
    let long = search rules ∙ c.play.ensures.played.others.long ∙ c.columns.auto.dst ∙ c.requires.stage_fits.scratch_is in
    let r = array_room_of c.requires.stage_fits c.read_array-a.ensures 2 in
    (first_in c.requires.stage_fits r long, compact_in c.requires.stage_fits r long 3 (omega arith), count_le c.requires.stage_fits, omega arith, first_apart c.requires.stage_fits r long 3 (omega arith))

pub overflow_add-size : goal.overflow_add-size
overflow_add-size c = omega (arith, size_most c.requires.stage_fits, from_small c.requires.stage_fits)

pub columns-requires-2 : goal.columns-requires-2
columns-requires-2 c =
    let long = c.columns_within.auto.work ∙ search rules ∙ c.play.ensures.played.others.long ∙ c.columns.auto.dst ∙ c.requires.stage_fits.scratch_is in (
      second_in c.requires.stage_fits (array_room_of c.requires.stage_fits c.read_array-a.ensures 3) long,
      block_as c.requires.stage_fits (λ (a : ArrayRecord). a.head_in) c.read_array-a.ensures c.requires.input_len.1,
      count_le c.requires.stage_fits,
      count_le c.requires.stage_fits,
    )

pub past-requires : goal.past-requires
past-requires c =
    let is = sym c.rechannel-sh.ensures in
    let p = past_fits c.requires.stage_fits 0 _ (rechannel_part c.args.sources.now.description.now c.read_array-a.ensures is) (entry_at c.requires.stage_fits) in
    record { low = p.0; fits = p.1 }

pub returns : goal.returns
returns c =
    let is = sym c.rechannel-sh.ensures in
    let t = entry_turn c.args.sources.now.input.now c.args.sources.now.head_in.now _ _ _ _ _ c.read_array-a.result c.read_array-a.ensures c.requires.stage_fits is c.columns.ensures (played_as (search rules) (search rules) (search rules) c.play.ensures.played) c.columns_within.ensures c.columns-2.ensures in
    record {
      value = c.past.ensures ∙ t.0;
      turn_done = t.1.by _ _ _;
      placed = t.1.places;
      outputs_kept = (refl, refl);
      same = record {
        histories = refl;
        positions = refl;
        head_out = refl;
        array_out = refl;
        histories_long = search rules;
        positions_long = search rules;
        head_long = refl;
        array_long = refl;
      };
    }
