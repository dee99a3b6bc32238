-- Copies and one convolution; each asks what Widths gives, and Exit joins them into a turn of the last stage.
use mathlib.Core.Path.{refl, sym, ◌∙◌}
use native.Mathlib.Omega.{arith}
use Rattle.std.proofs.Common.{rules}
use Rattle.stage.proofs.Held.{played_as}
use Rattle.description.proofs.Sound.{length_is}
use Rattle.description.specs.declared.records.ArrayRecord.{ArrayRecord}
use Rattle.stage.proofs.Widths.{array_room_of, size_most, compact_in, first_in, second_in, apart_second, count_le, block_as, from_small, play_fits, past_fits}
use Rattle.stage.proofs.Exit.{exit_turn, head_part, head_widths}
use Rattle.stage.proofs.last.head_turn.Goals as goal

pub read_array-a-requires : goal.read_array-a-requires
read_array-a-requires c = omega (arith, length_is c.args.sources.now.description.now c.requires.stage_fits.sound)

pub overflow_mul-x : goal.overflow_mul-x
overflow_mul-x c = omega (arith, size_most c.requires.stage_fits)

pub overflow_mul-out : goal.overflow_mul-out
overflow_mul-out c = omega (arith, size_most c.requires.stage_fits)

pub overflow_mul-rows : goal.overflow_mul-rows
overflow_mul-rows c = omega (arith, size_most c.requires.stage_fits)

pub overflow_add-size : goal.overflow_add-size
overflow_add-size c = omega (arith, size_most c.requires.stage_fits, from_small c.requires.stage_fits)

pub columns_within-requires : goal.columns_within-requires
columns_within-requires c =
    let r = array_room_of c.requires.stage_fits c.read_array-a.ensures 3 in
    let long = c.requires.stage_fits.scratch_is in
    (compact_in c.requires.stage_fits r long 3 (omega arith), second_in c.requires.stage_fits r long, omega arith, count_le c.requires.stage_fits, apart_second c.requires.stage_fits r long 3 (omega arith))

pub play-requires : goal.play-requires
play-requires c =
    let is = sym c.head_rechannel-sh.ensures in
    let w = head_widths c.args.sources.now.description.now c.requires.stage_fits.sound c.read_array-a.ensures is in
    play_fits c.requires.stage_fits _ _ (head_part c.args.sources.now.description.now c.read_array-a.ensures is) c.requires.stage_fits.start_is 3 (omega arith) (c.columns_within.auto.work ∙ c.requires.stage_fits.scratch_is) w.0 w.1

pub columns-requires : goal.columns-requires
columns-requires c =
    let long = search rules ∙ c.play.ensures.played.others.long ∙ c.columns_within.auto.work ∙ c.requires.stage_fits.scratch_is in (
      block_as c.requires.stage_fits (λ (a : ArrayRecord). a.head_size) c.read_array-a.ensures c.requires.head_out_len.0,
      compact_in c.requires.stage_fits (array_room_of c.requires.stage_fits c.read_array-a.ensures 4) long 4 (omega arith),
      count_le c.requires.stage_fits,
      omega arith,
    )

pub columns-requires-2 : goal.columns-requires-2
columns-requires-2 c =
    let long = search rules ∙ c.play.ensures.played.others.long ∙ c.columns_within.auto.work ∙ c.requires.stage_fits.scratch_is in (
      block_as c.requires.stage_fits (λ (a : ArrayRecord). a.channels) c.read_array-a.ensures c.requires.head_out_len.1,
      first_in c.requires.stage_fits (array_room_of c.requires.stage_fits c.read_array-a.ensures 2) long,
      count_le c.requires.stage_fits,
      count_le c.requires.stage_fits,
    )

pub past-requires : goal.past-requires
past-requires c =
    let is = sym c.head_rechannel-sh.ensures in
    let p = past_fits c.requires.stage_fits _ _ (head_part c.args.sources.now.description.now c.read_array-a.ensures is) c.requires.stage_fits.start_is in
    record { low = p.0; fits = p.1 }

pub returns : goal.returns
returns c =
    let is = sym c.head_rechannel-sh.ensures in
    let t = exit_turn _ _ _ _ _ _ _ c.read_array-a.result c.read_array-a.ensures c.requires.stage_fits c.requires.head_out_len.0 c.requires.head_out_len.1 is c.columns_within.ensures (played_as (search rules) (search rules) (search rules) c.play.ensures.played) c.columns.ensures c.columns-2.ensures in
    record {
      value = c.past.ensures ∙ t.0;
      turn_done = t.1.by _ _ _;
      placed = t.1.places;
      same = record {
        histories = refl;
        positions = refl;
        head_out = refl;
        array_out = refl;
        histories_long = search rules;
        positions_long = search rules;
        head_long = c.columns.auto.dst;
        array_long = c.columns-2.auto.dst;
      };
    }
