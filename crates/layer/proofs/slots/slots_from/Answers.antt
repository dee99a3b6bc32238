-- Each place comes from the one before; slots-of gathers them.
use Rattle.layer.proofs.Places.{slot_first, slots_are, slots_end}
use mathlib.Core.Path.{refl, sym}
use native.Mathlib.Omega.{arith}
use Rattle.layer.proofs.slots.slots_from.Goals as goal

pub past_core-mixin-requires : goal.past_core-mixin-requires
past_core-mixin-requires c = record { array_ranges = c.requires.array_ranges; layer_ranges = c.requires.layer_ranges; low = c.requires.low; k_bound = (omega arith, sym (slot_first _ _ _)) }

pub past_core-layer1x1-requires : goal.past_core-layer1x1-requires
past_core-layer1x1-requires c = record { array_ranges = c.requires.array_ranges; layer_ranges = c.requires.layer_ranges; low = c.requires.low; k_bound = (omega arith, c.past_core-mixin.ensures) }

pub past_core-head1x1-requires : goal.past_core-head1x1-requires
past_core-head1x1-requires c = record { array_ranges = c.requires.array_ranges; layer_ranges = c.requires.layer_ranges; low = c.requires.low; k_bound = (omega arith, c.past_core-layer1x1.ensures) }

pub past_core-conv_pre-requires : goal.past_core-conv_pre-requires
past_core-conv_pre-requires c = record { array_ranges = c.requires.array_ranges; layer_ranges = c.requires.layer_ranges; low = c.requires.low; k_bound = (omega arith, c.past_core-head1x1.ensures) }

pub past_site-conv_post-requires : goal.past_site-conv_post-requires
past_site-conv_post-requires c = record { array_ranges = c.requires.array_ranges; layer_ranges = c.requires.layer_ranges; low = c.requires.low; i_bound = (omega arith, c.past_core-conv_pre.ensures) }

pub past_site-input_mixin_pre-requires : goal.past_site-input_mixin_pre-requires
past_site-input_mixin_pre-requires c = record { array_ranges = c.requires.array_ranges; layer_ranges = c.requires.layer_ranges; low = c.requires.low; i_bound = (omega arith, c.past_site-conv_post.ensures) }

pub past_site-input_mixin_post-requires : goal.past_site-input_mixin_post-requires
past_site-input_mixin_post-requires c = record { array_ranges = c.requires.array_ranges; layer_ranges = c.requires.layer_ranges; low = c.requires.low; i_bound = (omega arith, c.past_site-input_mixin_pre.ensures) }

pub past_site-activation_pre-requires : goal.past_site-activation_pre-requires
past_site-activation_pre-requires c = record { array_ranges = c.requires.array_ranges; layer_ranges = c.requires.layer_ranges; low = c.requires.low; i_bound = (omega arith, c.past_site-input_mixin_post.ensures) }

pub past_site-activation_post-requires : goal.past_site-activation_post-requires
past_site-activation_post-requires c = record { array_ranges = c.requires.array_ranges; layer_ranges = c.requires.layer_ranges; low = c.requires.low; i_bound = (omega arith, c.past_site-activation_pre.ensures) }

pub past_site-layer1x1_post-requires : goal.past_site-layer1x1_post-requires
past_site-layer1x1_post-requires c = record { array_ranges = c.requires.array_ranges; layer_ranges = c.requires.layer_ranges; low = c.requires.low; i_bound = (omega arith, c.past_site-activation_post.ensures) }

pub past_site-head1x1_post-requires : goal.past_site-head1x1_post-requires
past_site-head1x1_post-requires c = record { array_ranges = c.requires.array_ranges; layer_ranges = c.requires.layer_ranges; low = c.requires.low; i_bound = (omega arith, c.past_site-layer1x1_post.ensures) }

pub past_site-end-requires : goal.past_site-end-requires
past_site-end-requires c = record { array_ranges = c.requires.array_ranges; layer_ranges = c.requires.layer_ranges; low = c.requires.low; i_bound = (omega arith, c.past_site-head1x1_post.ensures) }

pub returns : goal.returns
returns c = (
  refl,
  slots_are _ _ c.args.start _ refl c.past_core-mixin.ensures c.past_core-layer1x1.ensures c.past_core-head1x1.ensures c.past_core-conv_pre.ensures c.past_site-conv_post.ensures c.past_site-input_mixin_pre.ensures c.past_site-input_mixin_post.ensures c.past_site-activation_pre.ensures c.past_site-activation_post.ensures c.past_site-layer1x1_post.ensures c.past_site-head1x1_post.ensures c.past_site-end.ensures,
  slots_end _ _ c.args.start _ refl c.past_core-mixin.ensures c.past_core-layer1x1.ensures c.past_core-head1x1.ensures c.past_core-conv_pre.ensures c.past_site-conv_post.ensures c.past_site-input_mixin_pre.ensures c.past_site-input_mixin_post.ensures c.past_site-activation_pre.ensures c.past_site-activation_post.ensures c.past_site-layer1x1_post.ensures c.past_site-head1x1_post.ensures c.past_site-end.ensures,
)
