-- One column of a layer, with every column between named. Document 01, 'The recurrence' (Layer).
use Rattle.std.specs.Prelude.{Bool, true, false, cond, ◌&&◌, List, [], ◌∷◌, ℕ, ◌+◌, get_or, Float, None, Some}
use Rattle.std.specs.Float.{binary32}
use Rattle.std.specs.Float.Ieee.{add}
use Rattle.ring.specs.Memory.{Memory}
use Rattle.gating.specs.Joined.{joined}
use Rattle.gating.specs.declared.Mode.{Mode}
use Rattle.gating.specs.declared.Mode.TheVariants.{None, Gated, Blended}
use Rattle.description.specs.ZeroRules.{bit}
use Rattle.description.specs.Parts.{conv_of, mixin_of, layer1x1_of, head1x1_of, site_of, site_width}
use Rattle.description.specs.declared.records.ArrayRecord.{ArrayRecord}
use Rattle.description.specs.declared.records.LayerRecord.{LayerRecord}
use Rattle.description.specs.Part.{Part}
use Rattle.slot.specs.Steps.{pushed, convolved, sited}

abbrev pub is_there : Part → Bool
is_there None = false
is_there (Some sh) = true

abbrev pub is_blended : Mode → Bool
is_blended None = false
is_blended Gated = false
is_blended Blended = true

module _ (a : ArrayRecord) (r : LayerRecord) where
  -- sites 0 to 5 are applied where they are there; site 6 only in Blended, behind a layer1x1; site 7 only behind a head1x1
  unfoldable pub applies : ℕ → Bool
  applies i =
      get_or (true ∷ true ∷ true ∷ true ∷ true ∷ true ∷ (is_blended r.mode && is_there (layer1x1_of a r)) ∷ is_there (head1x1_of a r) ∷ []) i false

  -- a site as it is applied
  unfoldable pub applied_site : ℕ → Part
  applied_site i = cond (applies i) (site_of a r i) None

  -- the weights and memories of the slots, by slot number: 0 conv, 1 mixin, 2 layer1x1, 3 head1x1, 4 to 11 the sites 0 to 7. x: the layer's input
  module _ (weights : ℕ → List Float) (memory : ℕ → Memory) (x condition : ℕ → Float) where
    -- what site i remembers: sites not applied keep their histories and positions
    unfoldable pub site' : ℕ → Memory
    site' i = pushed (applied_site i) (memory (4 + i)) condition

    -- a column past site i
    unfoldable pub site : ℕ → (ℕ → Float) → ℕ → Float
    site i v = sited (applied_site i) (bit r.shift_bits i) (site_width a r i) (weights (4 + i)) (site' i) v

    -- conv input = site 0 or the input; conv; site 1
    unfoldable pub conv_input : ℕ → Float
    conv_input = site 0 x

    unfoldable pub conv' : Memory
    conv' = pushed (conv_of a r) (memory 0) conv_input

    unfoldable pub conv_output : ℕ → Float
    conv_output = site 1 (convolved (conv_of a r) (weights 0) conv')

    -- mixin input = site 2 of the condition or the condition; mixin; site 3
    unfoldable pub mixin_input : ℕ → Float
    mixin_input = site 2 condition

    unfoldable pub mixin' : Memory
    mixin' = pushed (mixin_of a r) (memory 1) mixin_input

    unfoldable pub mixin_output : ℕ → Float
    mixin_output = site 3 (convolved (mixin_of a r) (weights 1) mixin')

    -- z = conv + mixin; site 4
    unfoldable pub z : ℕ → Float
    z = site 4 (λ o. add binary32 (conv_output o) (mixin_output o))

    -- gating; site 5
    unfoldable pub gated : ℕ → Float
    gated = site 5 (λ c. joined r.mode r.primary r.secondary (z c) (z (c + r.bottleneck)))

    -- head1x1 then site 7, or the gated values
    unfoldable pub head1x1' : Memory
    head1x1' = pushed (head1x1_of a r) (memory 3) gated

    unfoldable pub contribution : ℕ → Float
    contribution c = cond (is_there (head1x1_of a r)) (site 7 (convolved (head1x1_of a r) (weights 3) head1x1') c) (gated c)

    -- add to the head accumulator, accumulator first
    unfoldable pub accumulated : (ℕ → Float) → ℕ → Float
    accumulated accumulator c = add binary32 (accumulator c) (contribution c)

    -- layer1x1, site 6, then result + layer input; without layer1x1 the layer input
    unfoldable pub layer1x1' : Memory
    layer1x1' = pushed (layer1x1_of a r) (memory 2) gated

    unfoldable pub signal : ℕ → Float
    signal c = cond (is_there (layer1x1_of a r)) (add binary32 (site 6 (convolved (layer1x1_of a r) (weights 2) layer1x1') c) (x c)) (x c)

    -- what the slots remember then, in their order
    unfoldable pub after : List Memory
    after =
        conv' ∷ mixin' ∷ layer1x1' ∷ head1x1'
        ∷ site' 0 ∷ site' 1 ∷ site' 2 ∷ site' 3 ∷ site' 4 ∷ site' 5 ∷ site' 6 ∷ site' 7 ∷ []
