-- Case A of document 01, its run-only sizes and faults of each kind, computed from the definitions. Assumes nothing.
use mathlib.Core.Path.{◌≡◌, refl}
use mathlib.Core.List.{List, [], ◌∷◌, ◌++◌, map}
use Prim.Native.Nat.{ℕ, ◌+◌}
use lib.ListN.{replicate, set, take}
use Rattle.shape.specs.Counts.{history_count, kernel_count, ring_length, weight_count}
use Rattle.description.specs.Answers.{listed}
use Rattle.description.specs.Limits.{array_limits, breaks_range, layer_limits}
use Rattle.description.specs.Numbers.{record_at}
use Rattle.gating.specs.Joined.{input_rows}
use Rattle.description.specs.Parts.{conv_of, each_layer, head1x1_of, head_rechannel_of, layer1x1_of, mid, mixin_of, parts_of, parts_to, rechannel_of, site_of, site_width, slots_of, uneven_of, unless0}
use Rattle.description.specs.Records.{activation_of, array_of, layer_of, mode_of, sites_of}
use Rattle.description.specs.Refusals.{breaks_layer, head_width, refusal_of, refused1, refused2, refused3, refused4, refused5, unmatched_of}
use Rattle.description.specs.Sizes.{depth_of, histories_of, largest, positions_of, sizes_of, sum_below, total, weights_of, widest_of}
use Rattle.description.specs.Tests.{any, any_below}
use Rattle.description.specs.ZeroRules.{breaks_activations, breaks_parts, breaks_sites, breaks_zero_rule}

unfoldable pub array_a : ℕ → List ℕ
array_a layers = 1 ∷ 1 ∷ 1 ∷ 1 ∷ 1 ∷ 1 ∷ 0 ∷ layers ∷ []

unfoldable pub layer_a : List ℕ
layer_a = 1 ∷ 2 ∷ 2 ∷ 1 ∷ 1 ∷ 0 ∷ 1 ∷ 0 ∷ 0 ∷ 0 ∷ 1 ∷ 1 ∷ replicate 12 0

-- two layers of case A, with number p of layer l set to v
unfoldable pub with_number : ℕ → ℕ → ℕ → List ℕ
with_number l p v = set (array_a 2 ++ layer_a ++ layer_a) (record_at l + p) v

-- 32 channels, kernel 16, dilation 2048
unfoldable pub wide : List ℕ
wide = 32 ∷ 16 ∷ 2048 ∷ 1 ∷ 1 ∷ 0 ∷ 0 ∷ 0 ∷ 0 ∷ 0 ∷ 1 ∷ 0 ∷ replicate 12 0

pub sizes_a : listed (sizes_of (array_a 1 ++ layer_a)) ≡ 8 ∷ 7 ∷ 5 ∷ 1 ∷ 2 ∷ []
unfolding array_a layer_a with_number wide total weights_of histories_of positions_of parts_of parts_to each_layer slots_of rechannel_of head_rechannel_of conv_of mixin_of layer1x1_of head1x1_of site_of site_width unless0 mid input_rows array_of layer_of mode_of sites_of activation_of weight_count history_count kernel_count ring_length listed sizes_of widest_of depth_of largest sum_below
sizes_a = refl

pub refusal_a : refusal_of (array_a 1 ++ layer_a) ≡ 0
unfolding array_a layer_a with_number wide total weights_of histories_of positions_of parts_of parts_to each_layer slots_of rechannel_of head_rechannel_of conv_of mixin_of layer1x1_of head1x1_of site_of site_width unless0 mid input_rows array_of layer_of mode_of sites_of activation_of weight_count history_count kernel_count ring_length refusal_of refused1 refused2 refused3 refused4 refused5 breaks_range array_limits layer_limits breaks_layer breaks_zero_rule breaks_activations breaks_parts breaks_sites any any_below uneven_of unmatched_of head_width
refusal_a = refl

-- 1: too short for the head, a number short, a number over, and an L whose 8 + 24L passes 32 bits
pub refusals_1 : map refusal_of (take 7 (array_a 0) ∷ take 31 (array_a 1 ++ layer_a) ∷ (array_a 1 ++ layer_a ++ 0 ∷ []) ∷ (array_a 0x2000_0001 ++ layer_a) ∷ []) ≡ 1 ∷ 1 ∷ 1 ∷ 1 ∷ []
unfolding array_a layer_a with_number wide total weights_of histories_of positions_of parts_of parts_to each_layer slots_of rechannel_of head_rechannel_of conv_of mixin_of layer1x1_of head1x1_of site_of site_width unless0 mid input_rows array_of layer_of mode_of sites_of activation_of weight_count history_count kernel_count ring_length refusal_of refused1 refused2 refused3 refused4 refused5 breaks_range array_limits layer_limits breaks_layer breaks_zero_rule breaks_activations breaks_parts breaks_sites any any_below uneven_of unmatched_of head_width
refusals_1 = refl

-- 2: no layer, 25 layers; in layer 1: mode 3, code 4, a slope of -0 with code 1, a secondary in mode None, a bias of an absent head1x1, width without
-- groups, groups without width, a shift bit of an absent site, shift bits 256
pub refusals_2 : map refusal_of
    (array_a 0
    ∷ (array_a 25 ++ each_layer (λ l. layer_a) 25)
    ∷ with_number 1 5 3
    ∷ with_number 1 6 4
    ∷ with_number 1 7 0x8000_0000
    ∷ with_number 1 8 1
    ∷ with_number 1 14 1
    ∷ with_number 1 12 1
    ∷ with_number 1 13 1
    ∷ with_number 1 23 128
    ∷ with_number 1 23 256
    ∷ [])
    ≡ replicate 11 2
unfolding array_a layer_a with_number wide total weights_of histories_of positions_of parts_of parts_to each_layer slots_of rechannel_of head_rechannel_of conv_of mixin_of layer1x1_of head1x1_of site_of site_width unless0 mid input_rows array_of layer_of mode_of sites_of activation_of weight_count history_count kernel_count ring_length refusal_of refused1 refused2 refused3 refused4 refused5 breaks_range array_limits layer_limits breaks_layer breaks_zero_rule breaks_activations breaks_parts breaks_sites any any_below uneven_of unmatched_of head_width
refusals_2 = refl

-- 3: groups of conv, mixin, layer1x1 and a site that do not divide; 4: a head width, and a bottleneck without layer1x1; faults 4 and 2 give 2
pub refusals_3_4 : map refusal_of
    (with_number 1 3 2
    ∷ with_number 0 4 2
    ∷ with_number 1 10 2
    ∷ with_number 0 15 2
    ∷ set (array_a 1 ++ layer_a) 3 2
    ∷ set (with_number 0 0 2) (record_at 1 + 5) 3
    ∷ [])
    ≡ 3 ∷ 3 ∷ 3 ∷ 3 ∷ 4 ∷ 2 ∷ []
unfolding array_a layer_a with_number wide total weights_of histories_of positions_of parts_of parts_to each_layer slots_of rechannel_of head_rechannel_of conv_of mixin_of layer1x1_of head1x1_of site_of site_width unless0 mid input_rows array_of layer_of mode_of sites_of activation_of weight_count history_count kernel_count ring_length refusal_of refused1 refused2 refused3 refused4 refused5 breaks_range array_limits layer_limits breaks_layer breaks_zero_rule breaks_activations breaks_parts breaks_sites any any_below uneven_of unmatched_of head_width
refusals_3_4 = refl

-- 5: one wide layer fits, two do not
pub refusals_5 : map refusal_of ((1 ∷ 1 ∷ 32 ∷ 32 ∷ 1 ∷ 1 ∷ 0 ∷ 1 ∷ wide) ∷ (1 ∷ 1 ∷ 32 ∷ 32 ∷ 1 ∷ 1 ∷ 0 ∷ 2 ∷ wide ++ wide) ∷ []) ≡ 0 ∷ 5 ∷ []
unfolding array_a layer_a with_number wide total weights_of histories_of positions_of parts_of parts_to each_layer slots_of rechannel_of head_rechannel_of conv_of mixin_of layer1x1_of head1x1_of site_of site_width unless0 mid input_rows array_of layer_of mode_of sites_of activation_of weight_count history_count kernel_count ring_length refusal_of refused1 refused2 refused3 refused4 refused5 breaks_range array_limits layer_limits breaks_layer breaks_zero_rule breaks_activations breaks_parts breaks_sites any any_below uneven_of unmatched_of head_width
refusals_5 = refl
