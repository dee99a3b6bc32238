-- The bench table, computed from the definitions. Document 01, 'Bench table'. Assumes nothing.
use mathlib.Core.Path.{refl}
use lib.Ieee.{of_bits, to_bits, add, mul, sub, div, lt, neg}
use Rattle.exponent.specs.Exp.{E}
use Rattle.exponent.specs.Table.{entry}
use Rattle.reset.specs.Resets.{start_of as position_of, starts_of, silence_of}
use Rattle.lists.specs.Tab.{tab, fill}
use Rattle.single.specs.Sum.{sum_from}
use Rattle.shape.specs.Counts.{ring_length, inputs_per_group, outputs_per_group, kernel_count, weight_count, history_count}
use Rattle.ring.specs.Place.{next_place, place_back}
use Rattle.ring.specs.Memory.{push, past}
use Rattle.column.specs.Recurrence.{start_of, steps_back, channel_of, weight_index, tap_from, taps_from, output}
use Rattle.film.specs.Modulated.{modulated, modulation_of}
use Rattle.activation.specs.Activated.{relu, leaky, sigmoid, activated}
use Rattle.gating.specs.Joined.{input_rows, blend, joined}
use Rattle.description.specs.Limits.{array_limits, layer_limits, breaks_range}
use Rattle.description.specs.Parts.{mid, unless0, site_groups, rechannel_of, head_rechannel_of, conv_of, mixin_of, layer1x1_of, head1x1_of, site_width, site_of, slots_of, each_layer, parts_to, parts_of, uneven_of}
use Rattle.description.specs.Records.{array_of, mode_of, activation_of, sites_of, layer_of}
use Rattle.description.specs.Refusals.{refused1, breaks_layer, refused2, refused3, head_width, unmatched_of, refused4, refused5, refusal_of}
use Rattle.description.specs.Sizes.{weights_of, histories_of, positions_of, total, place_of, place_at, largest, widest_of, sum_below, depth_of, sizes_of}
use Rattle.description.specs.Tests.{any_below, any}
use Rattle.description.specs.ZeroRules.{breaks_activations, breaks_parts, breaks_sites, breaks_zero_rule}
use Rattle.slot.specs.View.{weights_in, memory_in}
use Rattle.slot.specs.Steps.{pushed, convolved, sited}
use Rattle.layer.specs.Column.{applies, applied_site, site', site, conv_input, conv', conv_output, mixin_input, mixin', mixin_output, z, gated, head1x1', contribution, accumulated, layer1x1', signal}
use Rattle.layer.specs.Column as column
use Rattle.turns.specs.Grid.{through, stepped, states_after, columns_after}
use Rattle.turns.specs.Plan.{all_are, limit, allows, taken, keeps_from, keeps_rule}
use Rattle.array.specs.Stages.{part_at, first_part, part_count, weights_of_part, next, rechannelled, layered, headed, out}
use Rattle.array.specs.Memories.{memory_of_part, memories_of, all_memories, histories_joined, positions_joined, histories_from, positions_from}
use Rattle.array.specs.Planar.{column_in, columns_in, block_of}
use Rattle.array.specs.Refusals.{refused6, refused7, beyond, refused8, refused9, block_refusal, planned_refusal}
use Rattle.array.specs.Calls.{states_from, columns_from, brought, histories_played, positions_played, head_played, array_played}
use Rattle.demands.specs.Silence.{silent}
use Rattle.demands.specs.CaseA.{case_a}
use Rattle.demands.specs.Bench.{table, Holds}

pub bench : Holds table
unfolding Holds table case_a silent E entry position_of starts_of silence_of of_bits to_bits add mul sub div lt neg tab fill sum_from ring_length inputs_per_group outputs_per_group kernel_count weight_count history_count next_place place_back push past start_of steps_back channel_of weight_index tap_from taps_from output modulated modulation_of relu leaky sigmoid activated input_rows blend joined array_limits layer_limits breaks_range mid unless0 rechannel_of head_rechannel_of conv_of mixin_of layer1x1_of head1x1_of site_width site_of slots_of each_layer parts_to parts_of uneven_of array_of mode_of activation_of sites_of layer_of refused1 breaks_layer refused2 refused3 head_width unmatched_of refused4 refused5 refusal_of weights_of histories_of positions_of total place_of place_at largest widest_of sum_below depth_of sizes_of any_below any breaks_activations breaks_parts breaks_sites breaks_zero_rule weights_in memory_in pushed convolved sited applies applied_site site' site conv_input conv' conv_output mixin_input mixin' mixin_output z gated head1x1' contribution accumulated layer1x1' signal column.after through stepped states_after columns_after all_are limit allows taken keeps_from keeps_rule part_at first_part part_count weights_of_part next rechannelled layered headed out memory_of_part memories_of all_memories histories_joined positions_joined histories_from positions_from column_in columns_in block_of refused6 refused7 beyond refused8 refused9 block_refusal planned_refusal states_from columns_from brought histories_played positions_played head_played array_played
bench = refl
