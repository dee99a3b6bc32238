-- A layer's turn: copies in, the layer, copies back are a turn by the definition. Assumes nothing.
use Rattle.std.specs.Prelude.{None, Some}
use mathlib.Core.Path.{◌≡◌, refl, sym, ◌∙◌, ap}
use mathlib.Core.List.{List, []}
use Prim.Native.Nat.{ℕ, zero, suc, ◌+◌, ◌-◌, ◌*◌, ◌≤◌, ◌<◌}
use native.Mathlib.Nat.{add-zero, zero-add}
use native.Mathlib.Omega.{arith}
use borrow.Author.Tests.{lt-ltb}
use lib.ListN.{length, get_or}
use lib.Ieee.{Float, nan}
use Rattle.lists.specs.Tab.{at, tab}
use Rattle.lists.specs.Region.{Apart, Holds, Beside, Free}
use Rattle.lists.proofs.Nums.{row_end}
use Rattle.lists.proofs.Tab.{length-tab, at-tab, is_tab, tab_ext}
use Rattle.lists.proofs.Regions.{free_then, free_as, holds_as}
use Rattle.ring.specs.Memory.{Memory}
use Rattle.shape.specs.declared.Shape.{Shape}
use Rattle.shape.specs.Counts.{ring_length}
use Rattle.turns.specs.Turn.{run_from}
use Rattle.description.specs.Numbers.{layer_count}
use Rattle.description.specs.Parts.{parts_of, slots_of, part_of}
use Rattle.description.specs.Records.{array_of, layer_of}
use Rattle.description.specs.Sizes.{place_at, widest_of}
use Rattle.description.specs.Tally.{past_all}
use Rattle.description.specs.declared.places.Place.{Place}
use Rattle.description.specs.declared.records.ArrayRecord.{ArrayRecord}
use Rattle.description.specs.declared.records.LayerRecord.{LayerRecord}
use Rattle.description.proofs.Sound.{part_slot, place_next, length-parts}
use Rattle.layer.specs.Column.{signal, accumulated, after}
use Rattle.layer.specs.Layered.{slot_place, slot_memory, slot_weights, memories_at, LayeredAs, Layered}
use Rattle.layer.proofs.Places.{slot_first, slot_next}
use Rattle.array.specs.Stages.{Column, part_at, first_part, part_count, memory_at, weights_of_part, next, out, layered}
use Rattle.array.specs.Memories.{memories_of, memory_of_part}
use Rattle.array.specs.Planar.{column_in}
use Rattle.array.specs.Lent.{Given}
use Rattle.array.specs.Turn.{Changing, start_of, column_at, between, past, entering, leaving, TurnDone}
use Rattle.stage.specs.declared.span.Span.{Span}
use Rattle.stage.specs.Turns.{StageFits}
use Rattle.stage.proofs.ByKind.{LayerTurn, given_of, changing_of}
use Rattle.stage.specs.Copies.{Brought, HandedOn}
use Rattle.stage.proofs.Columns.{column_taken, beside_column, column_kept}
use Rattle.stage.proofs.Widths.{Room, array_room}
use Rattle.stage.proofs.Placing.{placed_on}
use Rattle.stage.proofs.Twelve.{none, after_ext, signal_ext, accumulated_ext}

-- ---- a layer's slots are twelve parts of the description
module _ (d : List ℕ) (l : ℕ) (in-range : l < layer_count d) where
  abbrev a : ArrayRecord
  a = array_of d

  abbrev r : LayerRecord
  r = layer_of d l

  abbrev start : Place
  start = place_at d (1 + 12 * l)

  pub slot_is : (k : ℕ) → k < 12 → get_or (parts_of d) (1 + 12 * l + k) None ≡ part_of a r k
  slot_is k h = let e : 1 + 12 * l + k ≡ 1 + (12 * l + k) = omega arith in rw e (part_slot d l k in-range h)

  pub slot_place_is : (k : ℕ) → k ≤ 12 → place_at d (1 + 12 * l + k) ≡ slot_place a r start k
  slot_place_is zero h = ap (place_at d) (add-zero (1 + 12 * l)) ∙ sym (slot_first a r start)
  slot_place_is (suc k) h =
      let e : 1 + 12 * l + suc k ≡ 1 + 12 * l + k + 1 = omega arith in
      ap (place_at d) e
      ∙ place_next d (1 + 12 * l + k) (omega (arith, length-parts d, h, in-range))
      ∙ rw (slot_is k (omega (arith, h)), slot_place_is k (omega (arith, h))) (slot_next a r start k (omega (arith, h)))

  pub slot_weights_are : (weights : List Float) (k : ℕ) → k < 12 → slot_weights a r start weights k ≡ weights_of_part d weights (1 + 12 * l + k)
  unfolding slot_weights weights_of_part part_at
  slot_weights_are weights k h = rw (slot_is k h, slot_place_is k (omega (arith, h)))

  pub slot_memory_is : (h : List Float) (p : List ℕ) (k : ℕ) → k < 12 → slot_memory a r start h p k ≡ memory_of_part d h p (1 + 12 * l + k)
  unfolding slot_memory memory_of_part part_at
  slot_memory_is h p k lt = rw (slot_is k lt, slot_place_is k (omega (arith, lt)))

  -- where the next stage starts
  pub layer_next : start_of d (suc (suc l)) ≡ past_all start (slots_of a r)
  unfolding first_part slot_place slots_of
  layer_next = let e : 1 + 12 * suc l ≡ 1 + 12 * l + 12 = omega arith in ap (place_at d) e ∙ slot_place_is 12 (omega arith)

-- ---- the turn
module _ (d : List ℕ) (l : ℕ) (in-range : l < layer_count d) {weights : List Float} (condition : List Float) {span : Span} {place : Place} {h0 h1 : List Float} (w0 w1 w2 w3 : List Float)
    {p0 p1 : List ℕ} {result : ℕ} (fits : StageFits d span (suc l) place (length weights) (length h0) p0 (length w0))
    (s1 : Brought (array_of d) span condition w0 w1)
    (s2 : Layered (array_of d) (layer_of d l) (place_at d (1 + 12 * l)) weights span.size span.count result w1 h0 p0 w2 h1 p1)
    (s3 : HandedOn (array_of d) span result w2 w3) where
  abbrev size : ℕ
  size = span.size

  abbrev n : ℕ
  n = span.n

  abbrev from : ℕ
  from = span.from

  abbrev count : ℕ
  count = span.count

  abbrev channels : ℕ
  channels = (array_of d).channels

  abbrev width : ℕ
  width = (array_of d).head_in

  room_channels : Room channels span
  room_channels = array_room fits 2

  room_head : Room width span
  room_head = array_room fits 3

  remembers : (h : List Float) (p : List ℕ) → memories_of d h p (suc l) ≡ tab 12 (λ j. memory_of_part d h p (1 + 12 * l + j))
  unfolding memories_of part_count first_part
  remembers h p = rw (lt-ltb l (layer_count d) in-range)

  -- the weights of the layer's slots, by part number
  abbrev W : ℕ → List Float
  W j = weights_of_part d weights (1 + 12 * l + j)

  next_is : (s : List Memory) (v : Column) → next d weights (suc l) s v ≡ after (array_of d) (layer_of d l) W (memory_at s) (at v.signal) (at v.condition)
  unfolding next
  next_is s v = rw (lt-ltb l (layer_count d) in-range)

  -- what stays: the first two regions but for the columns taken
  all_kept : Free nan (λ i. (i < 2 * size) × Beside from n channels count i × Beside (size + from) n width count i) w0 w3
  all_kept =
      let k12 : Free nan (λ i. i < 2 * size) w0 w2 = free_then s1.kept s2.others (λ i h. h) (λ i h. h) in
      free_then k12 s3.kept (λ i h. h.0) (λ i h. (h.1, h.2))

  module _ (input headIn headOut arrayOut : List Float) where
    abbrev b : Given
    b = given_of d weights input condition headIn

    abbrev e0 : Changing
    e0 = changing_of h0 p0 headOut arrayOut w0

    abbrev e1 : Changing
    e1 = changing_of h1 p1 headOut arrayOut w3

    -- the columns as they come
    abbrev u : ℕ → Column
    u t = entering b n e0 (suc l) t

    abbrev x : ℕ → ℕ → Float
    x t = at (u (from + t)).signal

    abbrev c : ℕ → ℕ → Float
    c t = at (u (from + t)).condition

    abbrev h : ℕ → ℕ → Float
    h t = at (u (from + t)).accumulator

    held_signal : Holds (2 * size) channels count (λ o t. x t o) w1
    unfolding entering between column_at
    held_signal = holds_as s1.signal (λ o t ho ht.
        let e : from + o * n + t ≡ 0 + o * n + (from + t) = omega arith in
        ap (at w0) e ∙ sym (at-tab nan channels (λ c. at w0 (0 + c * n + (from + t))) o ho))

    held_condition : Holds (3 * size) (array_of d).condition count (λ o t. c t o) w1
    unfolding entering between column_in
    held_condition = holds_as s1.condition (λ o t ho ht.
        let e : from + o * n + t ≡ o * n + (from + t) = omega arith in
        ap (at condition) e ∙ sym (at-tab nan (array_of d).condition (λ c. at condition (c * n + (from + t))) o ho))

    held_accumulator : Holds (4 * size) width count (λ o t. h t o) w1
    unfolding entering between column_at
    held_accumulator = holds_as s1.accumulator (λ o t ho ht.
        let e : size + from + o * n + t ≡ widest_of d * n + o * n + (from + t) = omega (arith, fits.size_is) in
        ap (at w0) e ∙ sym (at-tab nan width (λ c. at w0 (widest_of d * n + c * n + (from + t))) o ho))

    played : LayeredAs (array_of d) (layer_of d l) (place_at d (1 + 12 * l)) weights size count result w1 h0 p0 w2 h1 p1 x c h
    played = s2.by x c h held_signal held_condition held_accumulator

    abbrev run : ℕ → List Memory
    run t = run_from (next d weights) (out d weights) (suc l) (memories_of d h0 p0 (suc l)) from u t

    -- the slots' memories, one column after the other, are the stage's
    abbrev M : ℕ → ℕ → Memory
    M t = memories_at (array_of d) (layer_of d l) (place_at d (1 + 12 * l)) weights x c (slot_memory (array_of d) (layer_of d l) (place_at d (1 + 12 * l)) h0 p0) t

    agree : (t k : ℕ) → k < 12 → M t k ≡ memory_at (run t) k
    unfolding memories_at run_from
    agree zero k lt =
        slot_memory_is d l in-range h0 p0 k lt
        ∙ sym (ap (λ (s : List Memory). memory_at s k) (remembers h0 p0) ∙ at-tab none 12 (λ j. memory_of_part d h0 p0 (1 + 12 * l + j)) k lt)
    agree (suc t) k lt =
        ap (λ (s : List Memory). memory_at s k)
        (after_ext (array_of d) (layer_of d l) (x t) (c t) (slot_weights (array_of d) (layer_of d l) (place_at d (1 + 12 * l)) weights) W (M t) (memory_at (run t)) (slot_weights_are d l in-range weights) (agree t)
        ∙ sym (next_is (run t) (u (from + t))))

    twelve : (t : ℕ) → length (run t) ≡ 12
    unfolding run_from after
    twelve zero = ap length (remembers h0 p0) ∙ length-tab 12 (λ j. memory_of_part d h0 p0 (1 + 12 * l + j))
    twelve (suc t) = ap length (next_is (run t) (u (from + t)))

    memories : memories_of d h1 p1 (suc l) ≡ run count
    memories =
        remembers h1 p1
        ∙ tab_ext none 12 (λ j. memory_of_part d h1 p1 (1 + 12 * l + j)) (memory_at (run count))
        (λ k lt. sym (slot_memory_is d l in-range h1 p1 k lt) ∙ played.memories k lt ∙ agree count k lt)
        ∙ sym (is_tab none (run count) 12 (memory_at (run count)) (twelve count) (λ i lt. refl))

    signal_is : (i : ℕ) → i < count → column_at b n 0 channels w3 (from + i) ≡ tab channels (signal (array_of d) (layer_of d l) W (memory_at (run i)) (x i) (c i))
    unfolding column_at
    signal_is i lt =
        column_taken 0 n channels from count from (sym (zero-add from)) s3.signal i lt
        ∙ tab_ext nan channels (λ o. at w2 (result + o * count + i)) (signal (array_of d) (layer_of d l) W (memory_at (run i)) (x i) (c i))
        (λ o ho. played.signals.is o i ho lt
        ∙ signal_ext (array_of d) (layer_of d l) (x i) (c i) (slot_weights (array_of d) (layer_of d l) (place_at d (1 + 12 * l)) weights) W (M i) (memory_at (run i)) (slot_weights_are d l in-range weights) (agree i) o)

    accumulator_is : (i : ℕ) → i < count → column_at b n (widest_of d * n) width w3 (from + i)
        ≡ tab width (accumulated (array_of d) (layer_of d l) W (memory_at (run i)) (x i) (c i) (h i))
    unfolding column_at
    accumulator_is i lt =
        column_taken (widest_of d * n) n width from count (size + from) (omega (arith, fits.size_is)) s3.accumulator i lt
        ∙ tab_ext nan width (λ o. at w2 (4 * size + o * count + i)) (accumulated (array_of d) (layer_of d l) W (memory_at (run i)) (x i) (c i) (h i))
        (λ o ho. played.accumulators.is o i ho lt
        ∙ accumulated_ext (array_of d) (layer_of d l) (x i) (c i) (slot_weights (array_of d) (layer_of d l) (place_at d (1 + 12 * l)) weights) W (M i) (memory_at (run i)) (slot_weights_are d l in-range weights) (agree i) (h i) o)

    columns : (i : ℕ) → i < count → leaving b n e1 (suc l) (from + i) ≡ out d weights (suc l) (run i) (u (from + i))
    unfolding leaving between out layered entering
    columns i lt = rw (lt-ltb (suc l) (layer_count d + 1) (omega (arith, in-range)), lt-ltb l (layer_count d) in-range, signal_is i lt, accumulator_is i lt)

    -- columns that were not taken
    others : (t : ℕ) → t < n → Apart from count t 1 → (between b n e1 t ≡ between b n e0 t) × (past b n e1 t ≡ past b n e0 t)
    unfolding between past column_at
    others t ht outside =
        let s = column_kept all_kept 0 n channels t (λ c hc. let q = row_end c channels n hc in (
          omega (arith, q, ht, room_channels.of_block),
          beside_column 0 n channels from count from (sym (zero-add from)) c t fits.columns_inside ht outside,
          λ o ho. omega (arith, q, ht, room_channels.of_block),
        )) in
        let a = column_kept all_kept (widest_of d * n) n width t (λ c hc. let q = row_end c width n hc in (
          omega (arith, q, ht, room_head.of_block, fits.size_is),
          λ o ho. (let q2 = row_end o channels n ho in omega (arith, q2, room_channels.of_block, fits.columns_inside, fits.size_is)),
          beside_column (widest_of d * n) n width from count (size + from) (omega (arith, fits.size_is)) c t fits.columns_inside ht outside,
        )) in
        (rw (s, a), refl)

    done : TurnDone b n (suc l) from count e0 e1
    unfolding first_part past_all
    done = record {
      memories = memories;
      columns = columns;
      histories_kept = free_as s2.histories_kept (λ i q. omega (arith, q, ap (λ (p : Place). p.histories) (layer_next d l in-range)));
      positions_kept = free_as s2.positions_kept (λ i q. omega (arith, q, ap (λ (p : Place). p.positions) (layer_next d l in-range)));
      before_kept = λ t q. others t (omega (arith, q, fits.columns_inside)) (omega (arith, q));
      after_kept = λ t q lt. others t lt (omega (arith, q));
    }

  -- the layer's own positions
  own : (i : ℕ) (sh : Shape) → first_part (suc l) ≤ i → i < first_part (suc (suc l)) → get_or (parts_of d) i None ≡ Some sh → get_or p1 (place_at d i).positions 0 < ring_length sh
  unfolding first_part
  own i sh lo hi is =
      let k = i - (1 + 12 * l) in
      let e : 1 + 12 * l + k ≡ i = omega (arith, lo) in
      let lt : k < 12 = omega (arith, lo, hi) in
      let part : part_of (array_of d) (layer_of d l) k ≡ Some sh = sym (slot_is d l in-range k lt) ∙ rw e is in
      let q = s2.places k lt sh part in
      let p : slot_place (array_of d) (layer_of d l) (place_at d (1 + 12 * l)) k ≡ place_at d i = sym (slot_place_is d l in-range k (omega (arith, lt))) ∙ ap (place_at d) e in
      rw p at q

  pub layer_turn_is : LayerTurn d weights span h0 p0 w0 h1 p1 w3 l condition
  layer_turn_is = record { by = done; places = placed_on d (suc l) fits.places (done [] [] [] []).positions_kept own }
