-- The parts of a description: its convolutions, in one list. Document 01, 'Description' (mid, FiLM sites and widths, order of convolutions).
use Rattle.std.specs.Prelude.{List, [], ◌∷◌, ◌++◌, Bool, true, false, cond, not, ◌||◌, ℕ, zero, suc, ◌*◌, ◌%◌, eqb, get_or, None, Some}
use Rattle.shape.specs.declared.Shape.{Shape}
use Rattle.gating.specs.Joined.{input_rows}
use Rattle.description.specs.Numbers.{layer_count}
use Rattle.description.specs.ZeroRules.{bit}
use Rattle.description.specs.Records.{array_of, layer_of}
use Rattle.description.specs.declared.records.ArrayRecord.{ArrayRecord}
use Rattle.description.specs.declared.records.LayerRecord.{LayerRecord}
use Rattle.description.specs.Part.{Part}

-- mid = bottleneck in mode None, else twice that
unfoldable pub mid : LayerRecord → ℕ
mid r = input_rows r.mode r.bottleneck

-- a part that a 0 makes absent
unfoldable pub unless0 : ℕ → Shape → Part
unless0 n sh = cond (eqb n 0) None (Some sh)

-- kernel 1
abbrev pub pointwise : ℕ → ℕ → ℕ → Bool → Shape
pointwise ins outs groups biased = record { ins = ins; outs = outs; kernel = 1; dilation = 1; groups = groups; biased = biased }

-- groups of FiLM site i
abbrev pub site_groups : List ℕ → ℕ → ℕ
site_groups s i = get_or s i 0

module _ (a : ArrayRecord) where
  unfoldable pub rechannel_of : Part
  rechannel_of = Some (pointwise a.input a.channels 1 false)

  unfoldable pub head_rechannel_of : Part
  head_rechannel_of =
      Some
      (record { ins = a.head_in; outs = a.head_size; kernel = a.head_kernel; dilation = 1; groups = 1; biased = a.head_bias })

module _ (a : ArrayRecord) (r : LayerRecord) where
  unfoldable pub conv_of : Part
  conv_of =
      Some
      (record { ins = a.channels; outs = mid r; kernel = r.kernel; dilation = r.dilation; groups = r.conv_groups; biased = true })

  unfoldable pub mixin_of : Part
  mixin_of = Some (pointwise a.condition (mid r) r.mixin_groups false)

  unfoldable pub layer1x1_of : Part
  layer1x1_of = unless0 r.layer1x1_groups (pointwise r.bottleneck a.channels r.layer1x1_groups r.layer1x1_bias)

  unfoldable pub head1x1_of : Part
  head1x1_of = unless0 r.head1x1_width (pointwise r.bottleneck r.head1x1_width r.head1x1_groups r.head1x1_bias)

  -- the widths of the FiLM sites 0 to 7; the last is head1x1 width, or channels if absent
  unfoldable pub site_width : ℕ → ℕ
  site_width i =
      get_or
      (a.channels
      ∷ mid r
      ∷ a.condition
      ∷ mid r
      ∷ mid r
      ∷ r.bottleneck
      ∷ a.channels
      ∷ cond (eqb r.head1x1_width 0) a.channels r.head1x1_width
      ∷ [])
      i
      0

  -- a FiLM's sides are condition width and width x (2 with shift, else 1)
  unfoldable pub site_of : ℕ → Part
  site_of i =
      unless0 (site_groups r.sites i) (pointwise a.condition (site_width i * cond (bit r.shift_bits i) 2 1) (site_groups r.sites i) true)

  -- per layer conv, mixin, layer1x1, head1x1, the sites; an absent part is a slot of size zero
  unfoldable pub slots_of : List Part
  slots_of =
      conv_of
      ∷ mixin_of
      ∷ layer1x1_of
      ∷ head1x1_of
      ∷ site_of 0
      ∷ site_of 1
      ∷ site_of 2
      ∷ site_of 3
      ∷ site_of 4
      ∷ site_of 5
      ∷ site_of 6
      ∷ site_of 7
      ∷ []

  -- slot k of a layer
  unfoldable pub part_of : ℕ → Part
  part_of k = get_or slots_of k None

-- what each of the layers below n has, end to end
unfoldable pub each_layer : {A : Type 0} → (ℕ → List A) → ℕ → List A
each_layer f zero = []
each_layer f (suc n) = each_layer f n ++ f n

-- the parts before layer n
unfoldable pub parts_to : List ℕ → ℕ → List Part
parts_to d n = rechannel_of (array_of d) ∷ each_layer (λ l. slots_of (array_of d) (layer_of d l)) n

-- order of convolutions: rechannel; per layer its slots; head rechannel
unfoldable pub parts_of : List ℕ → List Part
parts_of d = parts_to d (layer_count d) ++ head_rechannel_of (array_of d) ∷ []

-- groups don't divide both sides of their convolution
unfoldable pub uneven_of : Part → Bool
uneven_of None = false
uneven_of (Some sh) = not (eqb (sh.ins % sh.groups) 0) || not (eqb (sh.outs % sh.groups) 0)
