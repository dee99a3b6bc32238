-- The copies around a layer do what they say. Assumes nothing.
use mathlib.Core.Path.{◌≡◌, ◌∙◌}
use mathlib.Core.List.{List}
use Prim.Native.Nat.{ℕ, ◌+◌, ◌*◌, ◌≤◌, ◌<◌}
use native.Mathlib.Omega.{arith}
use lib.ListN.{length}
use lib.Ieee.{Float, nan}
use Rattle.lists.specs.Tab.{at, rows}
use Rattle.lists.specs.Region.{Apart, Beside, Free}
use Rattle.lists.proofs.Nums.{row_end}
use Rattle.lists.proofs.Regions.{free_then, holds_as, holds_free, strip_as, strip_free, rows_free, rows_holds, rows_strip, rows_beside}
use Rattle.description.specs.declared.records.ArrayRecord.{ArrayRecord}
use Rattle.stage.specs.declared.span.Span.{Span}
use Rattle.stage.specs.Copies.{CopyFits, Brought, HandedOn}

module _ {a : ArrayRecord} {span : Span} (condition w0 w1 w2 w3 : List Float) (fits : CopyFits a span (length w0))
    (s1 : w1 ≡ rows (2 * span.size) span.count span.count a.channels (λ o t. at w0 (span.from + o * span.n + t)) w0)
    (s2 : w2 ≡ rows (3 * span.size) span.count span.count a.condition (λ o t. at condition (span.from + o * span.n + t)) w1)
    (s3 : w3 ≡ rows (4 * span.size) span.count span.count a.head_in (λ o t. at w2 (span.size + span.from + o * span.n + t)) w2) where
  k1 : Free nan (λ i. Apart (2 * span.size) (a.channels * span.count) i 1) w0 w1
  k1 = rows_free nan (2 * span.size) span.count a.channels _ w0 w1 s1

  k2 : Free nan (λ i. Apart (3 * span.size) (a.condition * span.count) i 1) w1 w2
  k2 = rows_free nan (3 * span.size) span.count a.condition _ w1 w2 s2

  k3 : Free nan (λ i. Apart (4 * span.size) (a.head_in * span.count) i 1) w2 w3
  k3 = rows_free nan (4 * span.size) span.count a.head_in _ w2 w3 s3

  k12 : Free nan (λ i. i < 2 * span.size) w0 w2
  k12 = free_then k1 k2 (λ i h. omega (arith, h)) (λ i h. omega (arith, h))

  long1 : length w1 ≡ 16 * span.size
  long1 = k1.long ∙ fits.long

  long2 : length w2 ≡ 16 * span.size
  long2 = k2.long ∙ long1

  pub brought : Brought a span condition w0 w3
  brought = record {
    signal =
        holds_free k3 (λ i lo hi. omega (arith, lo, hi, fits.channels_turn))
        (holds_free k2 (λ i lo hi. omega (arith, lo, hi, fits.channels_turn))
        (rows_holds (2 * span.size) span.count a.channels _ w0 w1 s1 (omega (arith, fits.long, fits.channels_turn))));
    condition =
        holds_free k3 (λ i lo hi. omega (arith, lo, hi, fits.condition_turn))
        (rows_holds (3 * span.size) span.count a.condition _ w1 w2 s2 (omega (arith, long1, fits.condition_turn)));
    accumulator =
        holds_as (rows_holds (4 * span.size) span.count a.head_in _ w2 w3 s3 (omega (arith, long2, fits.head_turn)))
        (λ o t ho ht. let q = row_end o a.head_in span.n ho in k12.is (span.size + span.from + o * span.n + t) (omega (arith, q, ht, fits.head_in, fits.columns_inside)));
    kept = free_then k12 k3 (λ i h. h) (λ i (h : i < 2 * span.size). omega (arith, h));
  }

module _ {a : ArrayRecord} {span : Span} (result : ℕ) (w0 w1 w2 : List Float) (fits : CopyFits a span (length w0)) (past : 2 * span.size ≤ result)
    (s1 : w1 ≡ rows span.from span.n span.count a.channels (λ o t. at w0 (result + o * span.count + t)) w0)
    (s2 : w2 ≡ rows (span.size + span.from) span.n span.count a.head_in (λ o t. at w1 (4 * span.size + o * span.count + t)) w1) where
  b1 : Free nan (Beside span.from span.n a.channels span.count) w0 w1
  b1 = rows_beside nan span.from span.n span.count a.channels _ w0 w1 s1

  b2 : Free nan (Beside (span.size + span.from) span.n a.head_in span.count) w1 w2
  b2 = rows_beside nan (span.size + span.from) span.n span.count a.head_in _ w1 w2 s2

  pub handed_on : HandedOn a span result w0 w2
  handed_on = record {
    signal =
        strip_free b2
        (λ o t ho ht p hp. let q = row_end o a.channels span.n ho in omega (arith, q, ht, fits.channels_in, fits.columns_inside))
        (rows_strip span.from span.n span.count a.channels _ w0 w1 s1 (omega (arith, fits.columns_inside)) (omega (arith, fits.long, fits.channels_in, fits.columns_inside)));
    accumulator =
        strip_as
        (rows_strip (span.size + span.from) span.n span.count a.head_in _ w1 w2 s2 (omega (arith, fits.columns_inside)) (omega (arith, b1.long, fits.long, fits.head_in, fits.columns_inside)))
        (λ o t ho ht. b1.is (4 * span.size + o * span.count + t) (λ p hp. let q = row_end p a.channels span.n hp in omega (arith, q, fits.channels_in, fits.columns_inside)));
    kept = free_then b1 b2 (λ i h. h.0) (λ i h. h.1);
  }
