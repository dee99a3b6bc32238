-- Where the numbers of a layer's slots start, and the order in which the slots are played.
use Rattle.std.specs.Prelude.{◌≡◌, [], ◌∷◌, ℕ, ◌≤◌, get_or}
use Rattle.description.specs.declared.records.ArrayRecord.{ArrayRecord}
use Rattle.description.specs.declared.records.LayerRecord.{LayerRecord}
use Rattle.description.specs.declared.places.Place.{Place}
use Rattle.layer.specs.declared.slots.Slots.{Slots}
use Rattle.layer.specs.Layered.{slot_place}

-- place k of twelve, and the end
abbrev pub place_in : Slots → ℕ → Place
place_in s k =
    get_or
    (s.conv ∷ s.mixin ∷ s.layer1x1 ∷ s.head1x1 ∷ s.conv_pre ∷ s.conv_post ∷ s.input_mixin_pre ∷ s.input_mixin_post ∷ s.activation_pre ∷ s.activation_post
    ∷ s.layer1x1_post ∷ s.head1x1_post ∷ [])
    k
    s.end

-- the slots of a layer: the first place is the layer's
pub record SlotsOf (a : ArrayRecord) (r : LayerRecord) (s : Slots) : Type 0 where
  pub is : (k : ℕ) → k ≤ 12 → place_in s k ≡ slot_place a r s.conv k

-- a layer plays conv_pre, conv, conv_post, input_mixin_pre, mixin, input_mixin_post, activation_pre, activation_post, head1x1, head1x1_post, layer1x1,
-- layer1x1_post: the turn of slot k
abbrev pub turn_of : ℕ → ℕ
turn_of k = get_or (1 ∷ 4 ∷ 10 ∷ 8 ∷ 0 ∷ 2 ∷ 3 ∷ 5 ∷ 6 ∷ 7 ∷ 11 ∷ 9 ∷ []) k 12
