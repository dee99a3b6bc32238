-- A whole file, played by the calls on its pieces and then block by block, for whatever block size its header has. Assumes nothing.
use mathlib.Core.Path.{◌≡◌, refl, sym, ◌∙◌}
use mathlib.Core.Bool.{Bool, true, false, cond, not}
use mathlib.Core.List.{List}
use Prim.Native.Nat.{ℕ, ◌*◌, ◌<◌}
use native.Mathlib.Omega.{arith}
use lib.Dec.{eqb, ltb}
use lib.ListN.{drop, take}
use borrow.Author.Tests.{eq-eqb, eqb-true}
use Rattle.description.specs.Records.{array_of}
use Rattle.description.specs.Refusals.{refusal_of}
use Rattle.description.specs.Sizes.{sizes_of}
use Rattle.description.proofs.Sound.{array_in_range}
use Rattle.wna.specs.File.{file_played, file_refusal, stream_of, width_of}
use Rattle.wna.specs.Header.{bad_header, block_of, columns_of, count_of, most_numbers}
use Rattle.wna.specs.Opening.{description_of, no_room, opening_refusal, short_for, weights_at}
use Rattle.wna.specs.Stream.{stream_refusal}
use Rattle.wna.proofs.Facts.{block_some}
use Rattle.wna.proofs.Order.{first_of, in_steps, opening_is}
use Rattle.wna.proofs.Streaming.{printed_in, refusal_in, stream_printed, stream_refused}

-- a file that is open has a block size, and its description is sound
sound : (short room last : Bool) (k : ℕ) → ◌≡◌ {A = ℕ} 0 (cond short 10 (cond (not (eqb k 0)) k (cond room 11 (cond last 10 0)))) → k ≡ 0
sound true room last k e = absurd (omega arith)
sound false room last k e = by (eqb k 0) refl
  where
    by : (z : Bool) → eqb k 0 ≡ z → k ≡ 0
    by true q = eqb-true k 0 q
    by false q = sym (rw q at e)

opened : (bad over short room last : Bool) (k : ℕ) → ◌≡◌ {A = ℕ} 0 (cond bad 10 (cond over 11 (cond short 10 (cond (not (eqb k 0)) k (cond room 11 (cond last 10 0))))))
    → (bad ≡ false) × (k ≡ 0)
opened true over short room last k e = absurd (omega arith)
opened false true short room last k e = absurd (omega arith)
opened false false short room last k e = (refl, sound short room last k e)

module _ (f : List ℕ) (e : opening_refusal f ≡ 0) where
  told : (bad_header f ≡ false) × (refusal_of (description_of f) ≡ 0)
  unfolding opening_refusal
  told =
      opened (bad_header f) (ltb most_numbers (count_of f)) (short_for (count_of f) (drop 15 f)) (no_room (sizes_of (description_of f)) (block_of f))
      (short_for (sizes_of (description_of f)).weights (drop (weights_at f) f)) (refusal_of (description_of f)) (sym e)

  some_block : 0 < block_of f
  some_block = block_some f told.0

  some_width : 0 < width_of (array_of (description_of f))
  some_width = omega (arith, (array_in_range (description_of f) told.1).input.least)

  -- the columns that the turns print
  pub file_played_is : printed_in (columns_of f) (block_of f) (width_of (array_of (description_of f))) (columns_of f) (stream_of f) ≡ file_played f
  unfolding file_played
  file_played_is =
      stream_printed (columns_of f) (block_of f) (width_of (array_of (description_of f))) (columns_of f) (stream_of f) (omega arith) some_block some_width
      ∙ rw (eq-eqb (opening_refusal f) 0 e)

-- the number at the end: the first refusal of the pieces, else that of the turns
pub file_refused : (f : List ℕ) → first_of
    (in_steps (take 15 f) (take (4 * count_of f) (drop 15 f)) (take (4 * (sizes_of (description_of f)).weights) (drop (weights_at f) f)))
    (refusal_in (columns_of f) (block_of f) (width_of (array_of (description_of f))) (columns_of f) (stream_of f))
    ≡ file_refusal f
unfolding file_refusal first_of
file_refused f = rw (sym (opening_is f)) (by (eqb (opening_refusal f) 0) refl)
  where
    by : (z : Bool) → eqb (opening_refusal f) 0 ≡ z
        → cond (eqb (opening_refusal f) 0) (refusal_in (columns_of f) (block_of f) (width_of (array_of (description_of f))) (columns_of f) (stream_of f)) (opening_refusal f)
        ≡ cond (eqb (opening_refusal f) 0) (stream_refusal (columns_of f) (width_of (array_of (description_of f))) (stream_of f)) (opening_refusal f)
    by true q =
        let e = eqb-true (opening_refusal f) 0 q in
        rw (stream_refused (columns_of f) (block_of f) (width_of (array_of (description_of f))) (columns_of f) (stream_of f) (omega arith) (some_block f e) (some_width f e))
    by false q = rw q
