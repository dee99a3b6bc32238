-- What follows from the parts: counts, offsets, W, the memory depth. Document 01, 'Description' (the last paragraph).
use Rattle.std.specs.Prelude.{List, [], ◌∷◌, ◌++◌, ℕ, zero, suc, ◌+◌, ◌-◌, ◌*◌, max, take, None, Some}
use Rattle.shape.specs.Counts.{history_count, weight_count}
use Rattle.description.specs.Numbers.{layer_count}
use Rattle.description.specs.Records.{array_of, layer_of}
use Rattle.description.specs.Parts.{each_layer, mid, parts_of}
use Rattle.description.specs.declared.records.ArrayRecord.{ArrayRecord}
use Rattle.description.specs.declared.records.LayerRecord.{LayerRecord}
use Rattle.description.specs.Part.{Part}
use Rattle.description.specs.declared.places.Place.{Place}
use Rattle.description.specs.declared.answers.Sizes.{Sizes}

unfoldable pub weights_of : Part → ℕ
weights_of None = 0
weights_of (Some sh) = weight_count sh

unfoldable pub histories_of : Part → ℕ
histories_of None = 0
histories_of (Some sh) = history_count sh

-- positions: one each
unfoldable pub positions_of : Part → ℕ
positions_of None = 0
positions_of (Some sh) = 1

unfoldable pub total : (Part → ℕ) → List Part → ℕ
total f [] = 0
total f (p ∷ ps) = f p + total f ps

-- the counts of parts, which is also the place where the next part's numbers start
unfoldable pub place_of : List Part → Place
place_of ps = record { weights = total weights_of ps; histories = total histories_of ps; positions = total positions_of ps }

-- the place past a part
unfoldable pub past_of : Place → Part → Place
past_of place p =
    record {
      weights = place.weights + weights_of p;
      histories = place.histories + histories_of p;
      positions = place.positions + positions_of p;
    }

-- where the numbers of part i start
unfoldable pub place_at : List ℕ → ℕ → Place
place_at d i = place_of (take i (parts_of d))

unfoldable pub largest : List ℕ → ℕ
largest [] = 0
largest (x ∷ xs) = max x (largest xs)

abbrev pub array_widths : ArrayRecord → List ℕ
array_widths a = a.input ∷ a.condition ∷ a.channels ∷ a.head_in ∷ a.head_size ∷ []

abbrev pub layer_widths : LayerRecord → List ℕ
layer_widths r = r.bottleneck ∷ mid r ∷ r.head1x1_width ∷ []

-- W, the largest of input, condition, channels, head-in, head size and each layer's bottleneck, mid and head1x1 width
unfoldable pub widest_of : List ℕ → ℕ
widest_of d = largest (array_widths (array_of d) ++ each_layer (λ l. layer_widths (layer_of d l)) (layer_count d))

abbrev pub reach : LayerRecord → ℕ
reach r = (r.kernel - 1) * r.dilation

-- the sum over the layers below n
unfoldable pub sum_below : ℕ → (ℕ → ℕ) → ℕ
sum_below zero f = 0
sum_below (suc n) f = sum_below n f + f n

-- the memory depth: the sum over layers of (kernel-1) x dilation
unfoldable pub depth_of : List ℕ → ℕ
depth_of d = sum_below (layer_count d) (λ l. reach (layer_of d l))

unfoldable pub sizes_of : List ℕ → Sizes
sizes_of d =
    record {
      weights = total weights_of (parts_of d);
      histories = total histories_of (parts_of d);
      positions = total positions_of (parts_of d);
      widest = widest_of d;
      depth = depth_of d;
    }
