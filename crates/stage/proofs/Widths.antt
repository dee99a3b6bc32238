-- What a turn's needs come to in numbers: every width times the columns fits a region, and the stage's numbers lie within the buffers. Assumes nothing.
use Rattle.std.specs.Prelude.{None, Some}
use mathlib.Core.Path.{◌≡◌, sym, ◌∙◌, ap, subst}
use mathlib.Core.List.{List}
use Prim.Native.Nat.{ℕ, suc, ◌+◌, ◌*◌, ◌≤◌, ◌<◌}
use native.Mathlib.Nat.{mul-le-mul, mul-le-mul_right}
use native.Mathlib.Omega.{arith}
use lib.ListN.{length, get_or}
use Rattle.shape.specs.declared.Shape.{Shape}
use Rattle.shape.specs.Counts.{history_count, weight_count}
use Rattle.description.specs.Parts.{parts_of}
use Rattle.description.specs.Ranges.{Low, Fits}
use Rattle.description.specs.Records.{array_of}
use Rattle.description.specs.Sizes.{weights_of, histories_of, positions_of, place_at, widest_of, array_widths}
use Rattle.description.specs.declared.places.Place.{Place}
use Rattle.description.specs.declared.records.ArrayRecord.{ArrayRecord}
use Rattle.lists.specs.Region.{Apart}
use Rattle.slot.specs.Play.{PlayFits}
use Rattle.description.proofs.Sound.{array_width_le, widest_most, widest_least, part_in_range, part_divided, weights_within, histories_within, positions_within, weights_most, histories_most, positions_most}
use Rattle.stage.specs.declared.span.Span.{Span}
use Rattle.stage.specs.Turns.{StageFits}

-- a width no larger than W, times the columns of the turn and of the block
pub record Room (w : ℕ) (span : Span) : Type 0 where
  pub of_turn : w * span.count ≤ span.size
  pub of_block : w * span.n ≤ span.size

module _ {d : List ℕ} {span : Span} {k : ℕ} {start : Place} {nweights nhistories : ℕ} {positions : List ℕ} {nscratch : ℕ}
    (fits : StageFits d span k start nweights nhistories positions nscratch) where
  pub room : (w : ℕ) → w ≤ widest_of d → Room w span
  room w h = record {
    of_turn = rw fits.size_is (mul-le-mul h (omega (arith, fits.columns_inside)));
    of_block = rw fits.size_is (mul-le-mul h (omega arith));
  }

  -- width i of the array: input, condition, channels, head-in, head size
  pub array_room : (i : ℕ) → Room (get_or (array_widths (array_of d)) i 0) span
  array_room i = room _ (array_width_le d fits.sound i)

  pub size_most : span.size ≤ 65536
  size_most = rw fits.size_is (mul-le-mul {n₁ = widest_of d} {n₂ = 64} (widest_most d fits.sound) fits.few)

  -- W is at least 1, so a region holds a column's number for every column of the block
  pub from_small : span.from ≤ span.size
  from_small = rw fits.size_is (let q = mul-le-mul_right {m = 1} {n = widest_of d} span.n (widest_least d fits.sound) in omega (arith, q, fits.columns_inside))

  -- the numbers of part i, which is there, lie within the buffers
  pub part_fits : (i : ℕ) (sh : Shape) → get_or (parts_of d) i None ≡ Some sh
      → ((place_at d i).weights + weight_count sh ≤ nweights) × ((place_at d i).histories + history_count sh ≤ nhistories) × ((place_at d i).positions < length positions)
  unfolding weights_of histories_of positions_of
  part_fits i sh is =
      let w = rw is at (weights_within d fits.sound i) in
      let h = rw is at (histories_within d fits.sound i) in
      let p = rw is at (positions_within d fits.sound i) in
      (omega (arith, w, fits.weights_are), omega (arith, h, fits.histories_are), omega (arith, p, fits.positions_are))

  -- a part's place is so low that no sum of places wraps
  pub place_low : (i : ℕ) → Low 0x100_0000_0000 (place_at d i)
  place_low i = record {
    weights = omega (arith, weights_within d fits.sound i, weights_most d fits.sound);
    histories = omega (arith, histories_within d fits.sound i, histories_most d fits.sound);
    positions = omega (arith, positions_within d fits.sound i, positions_most d fits.sound);
  }

  -- what copies between scratch and the turn's columns ask, for w channels
  module _ {w nwork : ℕ} (r : Room w span) (long : nwork ≡ 16 * span.size) where
    -- w rows of the turn in region i
    pub compact_in : (i : ℕ) → i < 16 → i * span.size + span.count + w * span.count ≤ nwork + span.count
    compact_in i h = omega (arith, mul-le-mul_right {m = suc i} {n = 16} span.size h, r.of_turn, long)

    -- the turn's columns of w rows of the block in regions 0 and 1
    pub first_in : span.from + span.count + w * span.n ≤ nwork + span.n
    first_in = omega (arith, r.of_block, long, fits.columns_inside)

    pub second_in : span.size + span.from + span.count + w * span.n ≤ nwork + span.n
    second_in = omega (arith, r.of_block, long, fits.columns_inside)

    -- region i from 2 on lies apart from the first, from 3 on from the second
    pub first_apart : (i : ℕ) → 2 ≤ i → Apart span.from (w * span.n) (i * span.size) (w * span.count)
    first_apart i h = omega (arith, mul-le-mul_right {m = 2} {n = i} span.size h, r.of_block, from_small)

    pub second_apart : (i : ℕ) → 3 ≤ i → Apart (span.size + span.from) (w * span.n) (i * span.size) (w * span.count)
    second_apart i h = omega (arith, mul-le-mul_right {m = 3} {n = i} span.size h, r.of_block, from_small)

    pub apart_second : (i : ℕ) → 3 ≤ i → Apart (i * span.size) (w * span.count) (span.size + span.from) (w * span.n)
    apart_second i h = omega (arith, second_apart i h)

  -- a buffer that is one block of w channels
  pub block_in : (w : ℕ) {l : ℕ} → l ≡ w * span.n → span.from + span.count + w * span.n ≤ l + span.n
  block_in w long = omega (arith, long, fits.columns_inside)

  pub count_le : span.count ≤ span.n
  count_le = omega (arith, fits.columns_inside)

  -- part i, which is there, can be played from region x to the next one; the one after that is used up
  module _ (i : ℕ) (sh : Shape) (is : get_or (parts_of d) i None ≡ Some sh) (at : start ≡ place_at d i) where
    pub play_fits : {nwork : ℕ} (x : ℕ) → x + 2 < 16 → nwork ≡ 16 * span.size → sh.ins ≤ widest_of d → sh.outs ≤ widest_of d
        → PlayFits sh start (get_or positions start.positions 0) span.count nwork nhistories (length positions) nweights (x * span.size) ((x + 1) * span.size) ((x + 2) * span.size)
    play_fits {nwork} x h long ins outs =
        let ri = room sh.ins ins in
        let ro = room sh.outs outs in
        let m = mul-le-mul_right {m = x + 3} {n = 16} span.size (omega (arith, h)) in
        let within = part_fits i sh is in
        record {
          range = (part_in_range d fits.sound i).shape sh is;
          divided = part_divided d fits.sound i is;
          place_in = rw at (fits.places.is i sh is);
          histories_in = rw at within.1;
          weights_inside = rw at within.0;
          positions_in = rw at within.2;
          x_in = omega (arith, m, ri.of_turn, long);
          out_in = omega (arith, m, ro.of_turn, long);
          rows_in = omega (arith, m, ri.of_turn, long);
          out_x = omega (arith, ri.of_turn, ro.of_turn);
          out_rows = omega (arith, ri.of_turn, ro.of_turn);
          rows_x = omega (arith, ri.of_turn, ro.of_turn);
        }

    pub past_fits : Low 0x100_0000_0000 start × Fits (Some sh)
    past_fits = (rw at (place_low i), rw (← is) (part_in_range d fits.sound i))

  pub array_room_of : {a : ArrayRecord} → a ≡ array_of d → (i : ℕ) → Room (get_or (array_widths a) i 0) span
  array_room_of is i = subst (λ (x : ArrayRecord). Room (get_or (array_widths x) i 0) span) (sym is) (array_room i)

  pub block_as : {a : ArrayRecord} (f : ArrayRecord → ℕ) {l : ℕ} → a ≡ array_of d → l ≡ f (array_of d) * span.n → span.from + span.count + f a * span.n ≤ l + span.n
  block_as {a} f is long = block_in (f a) (long ∙ ap (λ (x : ArrayRecord). f x * span.n) (sym is))
