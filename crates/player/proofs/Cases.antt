-- Document 01's case A as a file, and all that is printed for it, computed from the definitions. Assumes nothing.
use mathlib.Core.Path.{◌≡◌, refl}
use mathlib.Core.List.{List, [], ◌∷◌, ◌++◌}
use Prim.Native.Nat.{ℕ}
use lib.Ieee.{of_bits, to_bits, add, mul, sub, div, lt, neg}
use Rattle.exponent.specs.Exp.{E}
use Rattle.exponent.specs.Table.{entry}
use Rattle.reset.specs.Resets.{start_of as position_of, starts_of, silence_of}
use Rattle.lists.specs.Tab.{tab, fill}
use Rattle.single.specs.Sum.{sum_from}
use Rattle.shape.specs.Counts.{ring_length, inputs_per_group, outputs_per_group, kernel_count, weight_count, history_count}
use Rattle.ring.specs.Place.{next_place, place_back}
use Rattle.ring.specs.Memory.{push, past}
use Rattle.column.specs.Recurrence.{start_of, steps_back, channel_of, weight_index, tap_from, taps_from, output}
use Rattle.film.specs.Modulated.{modulated, modulation_of}
use Rattle.activation.specs.Activated.{relu, leaky, sigmoid, activated}
use Rattle.gating.specs.Joined.{input_rows, blend, joined}
use Rattle.description.specs.Limits.{array_limits, layer_limits, breaks_range}
use Rattle.description.specs.Parts.{mid, unless0, rechannel_of, head_rechannel_of, conv_of, mixin_of, layer1x1_of, head1x1_of, site_width, site_of, slots_of, each_layer, parts_to, parts_of, uneven_of}
use Rattle.description.specs.Records.{array_of, mode_of, activation_of, sites_of, layer_of}
use Rattle.description.specs.Refusals.{refused1, breaks_layer, refused2, refused3, head_width, unmatched_of, refused4, refused5, refusal_of}
use Rattle.description.specs.Sizes.{weights_of, histories_of, positions_of, total, place_of, place_at, largest, widest_of, sum_below, depth_of, sizes_of}
use Rattle.description.specs.Tests.{any_below, any}
use Rattle.description.specs.ZeroRules.{breaks_activations, breaks_parts, breaks_sites, breaks_zero_rule}
use Rattle.slot.specs.View.{weights_in as weightsOfSlot, memory_in}
use Rattle.slot.specs.Steps.{pushed, convolved, sited}
use Rattle.layer.specs.Column.{applies, applied_site, site', site, conv_input, conv', conv_output, mixin_input, mixin', mixin_output, z, gated, head1x1', contribution, accumulated, layer1x1', signal}
use Rattle.layer.specs.Column as column
use Rattle.turns.specs.Grid.{through, stepped, states_after, columns_after}
use Rattle.array.specs.Stages.{part_at, first_part, part_count, weights_of_part, next, rechannelled, layered, headed, out}
use Rattle.demands.specs.Silence.{silence, silent}
use Rattle.lines.specs.Text.{decimal_by, decimal_of, hex_digit, hex_of, last_of, line_of, lines_of, named_of, spaced_of, values_text}
use Rattle.wna.specs.Columns.{number_at}
use Rattle.wna.specs.File.{file_played, file_refusal, stream_of}
use Rattle.wna.specs.Header.{bad_header, other_magic}
use Rattle.wna.specs.Opening.{description_of, no_room, opening_refusal, short_for, weights_at}
use Rattle.wna.specs.Stream.{played_of, stream_refusal, whole_in}
use Rattle.wna.specs.Words.{float_at, floats_of, half_at, word_at, words_of}
use Rattle.player.specs.Plays.{column_held, column_lines, columns_held}
use Rattle.player.specs.Whole.{columns_in, file_text, weights_in}

-- header (block size 4, 32 numbers, 4 columns), description, weights, columns
unfoldable pub file_a : List ℕ
file_a =
    (87 ∷ 78 ∷ 65 ∷ 1 ∷ 0 ∷ 4 ∷ 0 ∷ 32 ∷ 0 ∷ 0 ∷ 0 ∷ 4 ∷ 0 ∷ 0 ∷ 0 ∷ [])
    ++ (1 ∷ 0 ∷ 0 ∷ 0 ∷ 1 ∷ 0 ∷ 0 ∷ 0 ∷ 1 ∷ 0 ∷ 0 ∷ 0 ∷ 1 ∷ 0 ∷ 0 ∷ 0 ∷ 1 ∷ 0 ∷ 0 ∷ 0 ∷ 1 ∷ 0 ∷ 0 ∷ 0 ∷ 0 ∷ 0 ∷ 0 ∷ 0 ∷ 1 ∷ 0 ∷ 0 ∷ 0
    ∷ 1 ∷ 0 ∷ 0 ∷ 0 ∷ 2 ∷ 0 ∷ 0 ∷ 0 ∷ 2 ∷ 0 ∷ 0 ∷ 0 ∷ 1 ∷ 0 ∷ 0 ∷ 0 ∷ 1 ∷ 0 ∷ 0 ∷ 0 ∷ 0 ∷ 0 ∷ 0 ∷ 0 ∷ 1 ∷ 0 ∷ 0 ∷ 0 ∷ 0 ∷ 0 ∷ 0 ∷ 0
    ∷ 0 ∷ 0 ∷ 0 ∷ 0 ∷ 0 ∷ 0 ∷ 0 ∷ 0 ∷ 1 ∷ 0 ∷ 0 ∷ 0 ∷ 1 ∷ 0 ∷ 0 ∷ 0 ∷ 0 ∷ 0 ∷ 0 ∷ 0 ∷ 0 ∷ 0 ∷ 0 ∷ 0 ∷ 0 ∷ 0 ∷ 0 ∷ 0 ∷ 0 ∷ 0 ∷ 0 ∷ 0
    ∷ 0 ∷ 0 ∷ 0 ∷ 0 ∷ 0 ∷ 0 ∷ 0 ∷ 0 ∷ 0 ∷ 0 ∷ 0 ∷ 0 ∷ 0 ∷ 0 ∷ 0 ∷ 0 ∷ 0 ∷ 0 ∷ 0 ∷ 0 ∷ 0 ∷ 0 ∷ 0 ∷ 0 ∷ 0 ∷ 0 ∷ 0 ∷ 0 ∷ 0 ∷ 0 ∷ 0 ∷ 0 ∷ [])
    ++ (0 ∷ 0 ∷ 0 ∷ 64 ∷ 0 ∷ 0 ∷ 128 ∷ 63 ∷ 0 ∷ 0 ∷ 0 ∷ 63 ∷ 0 ∷ 0 ∷ 128 ∷ 191 ∷ 0 ∷ 0 ∷ 128 ∷ 63 ∷ 0 ∷ 0 ∷ 0 ∷ 64 ∷ 0 ∷ 0 ∷ 0 ∷ 63 ∷ 0 ∷ 0 ∷ 64 ∷ 64 ∷ [])
    ++ (0 ∷ 0 ∷ 128 ∷ 63 ∷ 0 ∷ 0 ∷ 0 ∷ 0 ∷ 0 ∷ 0 ∷ 128 ∷ 63 ∷ 0 ∷ 0 ∷ 0 ∷ 64 ∷ 0 ∷ 0 ∷ 128 ∷ 63 ∷ 0 ∷ 0 ∷ 0 ∷ 0
    ∷ 0 ∷ 0 ∷ 64 ∷ 64 ∷ 0 ∷ 0 ∷ 0 ∷ 0 ∷ 0 ∷ 0 ∷ 0 ∷ 0 ∷ 0 ∷ 0 ∷ 128 ∷ 192 ∷ 0 ∷ 0 ∷ 0 ∷ 0 ∷ 0 ∷ 0 ∷ 0 ∷ 0 ∷ [])

-- the five lines of document 01
pub case_a_printed : file_text file_a
    ≡ (48 ∷ 32 ∷ 52 ∷ 48 ∷ 52 ∷ 48 ∷ 48 ∷ 48 ∷ 48 ∷ 48 ∷ 32 ∷ 52 ∷ 48 ∷ 50 ∷ 48 ∷ 48 ∷ 48 ∷ 48 ∷ 48 ∷ 10 ∷ [])
    ++ (49 ∷ 32 ∷ 52 ∷ 48 ∷ 99 ∷ 48 ∷ 48 ∷ 48 ∷ 48 ∷ 48 ∷ 32 ∷ 52 ∷ 49 ∷ 48 ∷ 56 ∷ 48 ∷ 48 ∷ 48 ∷ 48 ∷ 10 ∷ [])
    ++ (50 ∷ 32 ∷ 52 ∷ 49 ∷ 52 ∷ 48 ∷ 48 ∷ 48 ∷ 48 ∷ 48 ∷ 32 ∷ 52 ∷ 49 ∷ 54 ∷ 56 ∷ 48 ∷ 48 ∷ 48 ∷ 48 ∷ 10 ∷ [])
    ++ (51 ∷ 32 ∷ 48 ∷ 48 ∷ 48 ∷ 48 ∷ 48 ∷ 48 ∷ 48 ∷ 48 ∷ 32 ∷ 99 ∷ 48 ∷ 102 ∷ 48 ∷ 48 ∷ 48 ∷ 48 ∷ 48 ∷ 10 ∷ [])
    ++ (101 ∷ 110 ∷ 100 ∷ 32 ∷ 52 ∷ 10 ∷ [])
unfolding file_a file_text columns_in weights_in column_held column_lines columns_held decimal_by decimal_of hex_digit hex_of last_of line_of lines_of named_of spaced_of values_text number_at file_played file_refusal stream_of bad_header other_magic description_of no_room opening_refusal short_for weights_at played_of stream_refusal whole_in float_at floats_of half_at word_at words_of silence silent weightsOfSlot E entry position_of starts_of silence_of of_bits to_bits add mul sub div lt neg tab fill sum_from ring_length inputs_per_group outputs_per_group kernel_count weight_count history_count next_place place_back push past start_of steps_back channel_of weight_index tap_from taps_from output modulated modulation_of relu leaky sigmoid activated input_rows blend joined array_limits layer_limits breaks_range mid unless0 rechannel_of head_rechannel_of conv_of mixin_of layer1x1_of head1x1_of site_width site_of slots_of each_layer parts_to parts_of uneven_of array_of mode_of activation_of sites_of layer_of refused1 breaks_layer refused2 refused3 head_width unmatched_of refused4 refused5 refusal_of weights_of histories_of positions_of total place_of place_at largest widest_of sum_below depth_of sizes_of any_below any breaks_activations breaks_parts breaks_sites breaks_zero_rule memory_in pushed convolved sited applies applied_site site' site conv_input conv' conv_output mixin_input mixin' mixin_output z gated head1x1' contribution accumulated layer1x1' signal column.after through stepped states_after columns_after part_at first_part part_count weights_of_part next rechannelled layered headed out
case_a_printed = refl
