-- What a layer does with a column rests on twelve weights and twelve memories, and on nothing else that the two functions of a slot number give.
-- Assumes nothing.
use mathlib.Core.Path.{◌≡◌, refl, sym, ◌∙◌}
use mathlib.Core.List.{List, []}
use Prim.Native.Nat.{ℕ, ◌<◌}
use lib.ListN.{get_or}
use lib.Ieee.{Float}
use Rattle.lists.specs.Tab.{tab}
use Rattle.lists.proofs.Tab.{tab_ext}
use Rattle.ring.specs.Memory.{Memory}
use Rattle.description.specs.declared.records.ArrayRecord.{ArrayRecord}
use Rattle.description.specs.declared.records.LayerRecord.{LayerRecord}
use Rattle.layer.specs.Column.{site', site, conv_input, conv', conv_output, mixin_input, mixin', mixin_output, z, gated, head1x1', contribution, accumulated, layer1x1', signal, after}

-- no memory
abbrev pub none : Memory
none = record { history = []; place = 0 }

module _ (a : ArrayRecord) (r : LayerRecord) (x c : ℕ → Float) where
  -- by the first twelve
  abbrev weights_by : List (List Float) → ℕ → List Float
  weights_by l j = get_or l j []

  abbrev memories_by : List Memory → ℕ → Memory
  memories_by l j = get_or l j none

  by_twelve : (W : ℕ → List Float) (M : ℕ → Memory) → after a r W M x c ≡ after a r (weights_by (tab 12 W)) (memories_by (tab 12 M)) x c
  unfolding tab after site' site conv_input conv' conv_output mixin_input mixin' mixin_output z gated head1x1' layer1x1'
  by_twelve W M = refl

  signal_by_twelve : (W : ℕ → List Float) (M : ℕ → Memory) (o : ℕ) → signal a r W M x c o ≡ signal a r (weights_by (tab 12 W)) (memories_by (tab 12 M)) x c o
  unfolding tab signal site' site conv_input conv' conv_output mixin_input mixin' mixin_output z gated layer1x1'
  signal_by_twelve W M o = refl

  accumulated_by_twelve : (W : ℕ → List Float) (M : ℕ → Memory) (h : ℕ → Float) (o : ℕ)
      → accumulated a r W M x c h o ≡ accumulated a r (weights_by (tab 12 W)) (memories_by (tab 12 M)) x c h o
  unfolding tab accumulated contribution site' site conv_input conv' conv_output mixin_input mixin' mixin_output z gated head1x1'
  accumulated_by_twelve W M h o = refl

  module _ (W W' : ℕ → List Float) (M M' : ℕ → Memory) (weights : (k : ℕ) → k < 12 → W k ≡ W' k) (memories : (k : ℕ) → k < 12 → M k ≡ M' k) where
    same_weights : tab 12 W ≡ tab 12 W'
    same_weights = tab_ext [] 12 W W' weights

    same_memories : tab 12 M ≡ tab 12 M'
    same_memories = tab_ext none 12 M M' memories

    pub after_ext : after a r W M x c ≡ after a r W' M' x c
    after_ext = by_twelve W M ∙ rw (same_weights, same_memories) (sym (by_twelve W' M'))

    pub signal_ext : (o : ℕ) → signal a r W M x c o ≡ signal a r W' M' x c o
    signal_ext o = signal_by_twelve W M o ∙ rw (same_weights, same_memories) (sym (signal_by_twelve W' M' o))

    pub accumulated_ext : (h : ℕ → Float) (o : ℕ) → accumulated a r W M x c h o ≡ accumulated a r W' M' x c h o
    accumulated_ext h o = accumulated_by_twelve W M h o ∙ rw (same_weights, same_memories) (sym (accumulated_by_twelve W' M' h o))
