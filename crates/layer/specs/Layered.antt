-- A layer over a block of columns within the lent buffers: what it asks, and what it does.
use Rattle.std.specs.Prelude.{◌≡◌, ◌⊎◌, List, [], ℕ, zero, suc, ◌+◌, ◌*◌, ◌≤◌, ◌<◌, length, get_or, take, Float, Some}
use Rattle.std.specs.Float.{nan}
use Rattle.lists.specs.Region.{Apart, Holds, Free}
use Rattle.ring.specs.Memory.{Memory}
use Rattle.shape.specs.declared.Shape.{Shape}
use Rattle.shape.specs.Counts.{InRange, ring_length}
use Rattle.shape.specs.Groups.{Divided}
use Rattle.description.specs.Parts.{mid, slots_of, part_of}
use Rattle.description.specs.Ranges.{ArrayRanges, LayerRanges}
use Rattle.description.specs.Refusals.{head_width}
use Rattle.description.specs.Sizes.{weights_of, histories_of, positions_of, total}
use Rattle.description.specs.Tally.{past_all}
use Rattle.description.specs.declared.records.ArrayRecord.{ArrayRecord}
use Rattle.description.specs.declared.records.LayerRecord.{LayerRecord}
use Rattle.description.specs.declared.places.Place.{Place}
use Rattle.slot.specs.View.{weights_in, memory_in}
use Rattle.layer.specs.Column.{after, signal, accumulated}

module _ (a : ArrayRecord) (r : LayerRecord) (start : Place) where
  -- where slot k's numbers start, in a layer whose numbers start at `start`
  unfoldable pub slot_place : ℕ → Place
  slot_place k = past_all start (take k (slots_of a r))

  -- what slot k remembers, and its weights
  unfoldable pub slot_memory : List Float → List ℕ → ℕ → Memory
  slot_memory histories positions k = memory_in (part_of a r k) (slot_place k) histories positions

  unfoldable pub slot_weights : List Float → ℕ → List Float
  slot_weights weights k = weights_in (part_of a r k) (slot_place k) weights

  -- what slot k remembers after t columns x of input and c of condition, one at a time
  unfoldable pub memories_at : List Float → (ℕ → ℕ → Float) → (ℕ → ℕ → Float) → (ℕ → Memory) → ℕ → ℕ → Memory
  memories_at weights x c s zero = s
  memories_at weights x c s (suc t) = λ k. get_or (after a r (slot_weights weights) (memories_at weights x c s t) (x t) (c t)) k (record { history = []; place = 0 })

  -- a slot that is there: its shape is in range, its groups divide, its numbers lie within the buffers, its position is below its ring length
  pub record SlotFits (sh : Shape) (at : Place) (histories : List Float) (positions : List ℕ) (weights : List Float) : Type 0 where
    pub range : InRange sh
    pub divided : Divided sh
    pub place_in : get_or positions at.positions 0 < ring_length sh

  -- sixteen regions of `size` numbers; a layer uses those from 2 on. In: 2 the input, 3 the condition, 4 the accumulator
  pub record LayerFits (size m nwork : ℕ) (histories : List Float) (positions : List ℕ) (weights : List Float) : Type 0 where
    pub array : ArrayRanges a
    pub layer : LayerRanges r
    pub some : 0 < m
    pub channels_in : a.channels * m ≤ size
    pub condition_in : a.condition * m ≤ size
    pub head_in : a.head_in * m ≤ size
    pub mid_in : mid r * m ≤ size
    pub bottleneck_in : r.bottleneck * m ≤ size
    pub head1x1_in : r.head1x1_width * m ≤ size
    pub work_in : 16 * size ≤ nwork
    pub small : nwork ≤ 0xffff_ffff
    pub head_wide : head_width r ≡ a.head_in
    pub residual_width : r.layer1x1_groups ≡ 0 → r.bottleneck ≡ a.channels
    pub slots : (k : ℕ) → k < 12 → (sh : Shape) → part_of a r k ≡ Some sh → SlotFits sh (slot_place k) histories positions weights
    pub weights_inside : start.weights + total weights_of (slots_of a r) ≤ length weights
    pub histories_in : start.histories + total histories_of (slots_of a r) ≤ length histories
    pub positions_in : start.positions + total positions_of (slots_of a r) ≤ length positions
    pub few : length histories ≤ 0x100_0000
    pub few_weights : length weights ≤ 0x100_0000
    pub few_positions : length positions ≤ 0x100_0000

  -- whichever columns the three regions held: x the input, c the condition, h the accumulator. The layer's output is at `result`, region 2 or 13
  module _ (weights : List Float) (size m result : ℕ) (work histories : List Float) (positions : List ℕ) (work' histories' : List Float) (positions' : List ℕ) where
    pub record LayeredAs (x c h : ℕ → ℕ → Float) : Type 0 where
      pub signals : Holds result a.channels m (λ o t. signal a r (slot_weights weights) (memories_at weights x c (slot_memory histories positions) t) (x t) (c t) o) work'
      pub accumulators : Holds (4 * size) a.head_in m
          (λ o t. accumulated a r (slot_weights weights) (memories_at weights x c (slot_memory histories positions) t) (x t) (c t) (h t) o) work'
      pub memories : (k : ℕ) → k < 12 → slot_memory histories' positions' k ≡ memories_at weights x c (slot_memory histories positions) m k

    pub record Layered : Type 0 where
      pub by : (x c h : ℕ → ℕ → Float) → Holds (2 * size) a.channels m (λ o t. x t o) work → Holds (3 * size) a.condition m (λ o t. c t o) work
          → Holds (4 * size) a.head_in m (λ o t. h t o) work → LayeredAs x c h
      pub result_in : (result ≡ 2 * size) ⊎ (result ≡ 13 * size)
      pub places : (k : ℕ) → k < 12 → (sh : Shape) → part_of a r k ≡ Some sh → get_or positions' (slot_place k).positions 0 < ring_length sh
      pub others : Free nan (λ i. i < 2 * size) work work'
      pub histories_kept : Free nan (λ i. Apart start.histories (total histories_of (slots_of a r)) i 1) histories histories'
      pub positions_kept : Free 0 (λ i. Apart start.positions (total positions_of (slots_of a r)) i 1) positions positions'
