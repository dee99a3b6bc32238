-- The pieces of a layer over a block of columns: what each asks, and what it does. A layer is these pieces, one after the other.
use Rattle.std.specs.Prelude.{◌≡◌, cond, true, List, ◌⊎◌, ℕ, suc, ◌+◌, ◌*◌, ◌≤◌, ◌<◌, ltb, get_or, Float, None, Some}
use Rattle.std.specs.Float.{nan}
use Rattle.lists.specs.Region.{Apart, Holds, Free}
use Rattle.ring.specs.Memory.{Memory}
use Rattle.shape.specs.declared.Shape.{Shape}
use Rattle.shape.specs.Counts.{ring_length}
use Rattle.description.specs.Parts.{mid, layer1x1_of, head1x1_of, slots_of, part_of, site_width}
use Rattle.description.specs.Sizes.{histories_of, positions_of, total}
use Rattle.description.specs.declared.records.ArrayRecord.{ArrayRecord}
use Rattle.description.specs.declared.records.LayerRecord.{LayerRecord}
use Rattle.description.specs.Part.{Part}
use Rattle.description.specs.declared.places.Place.{Place}
use Rattle.slot.specs.Steps.{pushed, convolved}
use Rattle.slot.specs.Site.{result_at}
use Rattle.layer.specs.Column.{is_there, applied_site, site, conv_output, mixin_output, gated, accumulated, signal}
use Rattle.layer.specs.Layered.{slot_place, slot_memory, slot_weights, memories_at}
use Rattle.layer.specs.Slots.{turn_of}

-- the sides of a part
unfoldable pub ins_of : Part → ℕ
ins_of None = 0
ins_of (Some sh) = sh.ins

unfoldable pub outs_of : Part → ℕ
outs_of None = 0
outs_of (Some sh) = sh.outs

-- a region that a piece may write: past the layer's input and condition, beside regions 9 to 11, which each piece uses up
pub record Room (size to : ℕ) : Type 0 where
  pub past : 4 * size ≤ to
  pub end : to + size ≤ 16 * size
  pub beside : Apart to size (9 * size) (3 * size)

-- where site i is played, the convolution before it is there
pub record Behind (a : ArrayRecord) (r : LayerRecord) (i : ℕ) : Type 0 where
  pub site_in : i < 8
  pub layer1x1_there : i ≡ 6 → is_there (layer1x1_of a r) ≡ true
  pub head1x1_there : i ≡ 7 → is_there (head1x1_of a r) ≡ true

module _ (a : ArrayRecord) (r : LayerRecord) (start : Place) (weights : List Float) (size m : ℕ) where
  -- the input x and the condition c are in their regions; the slots of the turns before n remember m columns more than s, the others remember s
  pub record UnderWay (x c : ℕ → ℕ → Float) (s : ℕ → Memory) (n : ℕ) (work histories : List Float) (positions : List ℕ) : Type 0 where
    pub input : Holds (2 * size) a.channels m (λ o t. x t o) work
    pub condition : Holds (3 * size) a.condition m (λ o t. c t o) work
    pub memories : (k : ℕ) → k < 12 → slot_memory a r start histories positions k ≡ memories_at a r start weights x c s (cond (ltb (turn_of k) n) m 0) k

  -- row o, column t of one of the columns that Column names
  abbrev pub traced : ((ℕ → List Float) → (ℕ → Memory) → (ℕ → Float) → (ℕ → Float) → ℕ → Float) → (ℕ → ℕ → Float) → (ℕ → ℕ → Float) → (ℕ → Memory) → ℕ → ℕ → Float
  traced column x c s o t = column (slot_weights a r start weights) (memories_at a r start weights x c s t) (x t) (c t) o

  module _ (work histories : List Float) (positions : List ℕ) (work' histories' : List Float) (positions' : List ℕ) where
    -- the places of `work` that P allows, and all histories and positions but the layer's, are as they were; the layer's positions are below their ring lengths
    pub record Leaves (P : ℕ → Type 0) : Type 0 where
      pub others : Free nan P work work'
      pub places : (k : ℕ) → k < 12 → (sh : Shape) → part_of a r k ≡ Some sh → get_or positions' (slot_place a r start k).positions 0 < ring_length sh
      pub histories_kept : Free nan (λ i. Apart start.histories (total histories_of (slots_of a r)) i 1) histories histories'
      pub positions_kept : Free 0 (λ i. Apart start.positions (total positions_of (slots_of a r)) i 1) positions positions'

    -- Each piece, whichever columns are under way.
    -- FiLM site i, from a region to `result`: whichever columns v the first region held
    pub record SitePast (i from to result : ℕ) : Type 0 where
      pub there : result ≡ result_at (applied_site a r i) to from
      pub by : (x c : ℕ → ℕ → Float) (s : ℕ → Memory) (v : ℕ → ℕ → Float) → UnderWay x c s (turn_of (4 + i)) work histories positions
          → Holds from (site_width a r i) m (λ o t. v t o) work
          → UnderWay x c s (suc (turn_of (4 + i))) work' histories' positions'
          × Holds result (site_width a r i) m (λ o t. site a r (slot_weights a r start weights) (memories_at a r start weights x c s t) (x t) (c t) i (v t) o) work'
      pub leaves : Leaves (λ n. Apart to size n 1 × Apart (9 * size) (3 * size) n 1)

    -- the convolution of slot k, from region `from` to region `to`: whichever columns f the first held, if f is what the slot is given
    pub record ConvPast (k from to : ℕ) : Type 0 where
      pub by : (x c : ℕ → ℕ → Float) (s : ℕ → Memory) (f : ℕ → ℕ → Float) → UnderWay x c s (turn_of k) work histories positions
          → Holds from (ins_of (part_of a r k)) m (λ o t. f t o) work
          → ((t : ℕ) → memories_at a r start weights x c s (suc t) k ≡ pushed (part_of a r k) (memories_at a r start weights x c s t k) (f t))
          → UnderWay x c s (suc (turn_of k)) work' histories' positions'
          × Holds to (outs_of (part_of a r k)) m (λ o t. convolved (part_of a r k) (slot_weights a r start weights k) (memories_at a r start weights x c s (suc t) k) o) work'
      pub leaves : Leaves (λ n. Apart to size n 1 × Apart (9 * size) (3 * size) n 1)

    -- conv_pre, conv, conv_post: region 7
    pub record Fronted : Type 0 where
      pub by : (x c : ℕ → ℕ → Float) (s : ℕ → Memory) → UnderWay x c s 0 work histories positions
          → UnderWay x c s 3 work' histories' positions' × Holds (7 * size) (mid r) m (traced (conv_output a r) x c s) work'
      pub leaves : Leaves (λ i. i < 5 * size)

    -- input_mixin_pre, mixin, input_mixin_post: region 8
    pub record Mixed : Type 0 where
      pub by : (x c : ℕ → ℕ → Float) (s : ℕ → Memory) → UnderWay x c s 3 work histories positions
          → UnderWay x c s 6 work' histories' positions' × Holds (8 * size) (mid r) m (traced (mixin_output a r) x c s) work'
      pub leaves : Leaves (λ i. Apart (5 * size) size i 1 × (i < 8 * size))

    -- z, activation_pre, gating, activation_post: region 6
    pub record GatedPast : Type 0 where
      pub by : (x c : ℕ → ℕ → Float) (s : ℕ → Memory) → UnderWay x c s 6 work histories positions → Holds (7 * size) (mid r) m (traced (conv_output a r) x c s) work
          → Holds (8 * size) (mid r) m (traced (mixin_output a r) x c s) work
          → UnderWay x c s 8 work' histories' positions' × Holds (6 * size) r.bottleneck m (traced (gated a r) x c s) work'
      pub leaves : Leaves (λ i. i < 6 * size)

    -- head1x1, head1x1_post, the accumulator h: region 4
    pub record Headed : Type 0 where
      pub by : (x c h : ℕ → ℕ → Float) (s : ℕ → Memory) → UnderWay x c s 8 work histories positions → Holds (6 * size) r.bottleneck m (traced (gated a r) x c s) work
          → Holds (4 * size) a.head_in m (λ o t. h t o) work
          → UnderWay x c s 10 work' histories' positions'
          × Holds (4 * size) a.head_in m (λ o t. accumulated a r (slot_weights a r start weights) (memories_at a r start weights x c s t) (x t) (c t) (h t) o) work'
      pub leaves : Leaves (λ i. Apart (4 * size) size i 1 × (i < 9 * size))

    -- layer1x1, layer1x1_post, the layer's input: region 2 or 13
    pub record Residual (result : ℕ) : Type 0 where
      pub by : (x c : ℕ → ℕ → Float) (s : ℕ → Memory) → UnderWay x c s 10 work histories positions → Holds (6 * size) r.bottleneck m (traced (gated a r) x c s) work
          → UnderWay x c s 12 work' histories' positions' × Holds result a.channels m (traced (signal a r) x c s) work'
      pub result_in : (result ≡ 2 * size) ⊎ (result ≡ 13 * size)
      pub leaves : Leaves (λ i. i < 9 * size)
