-- The five pieces, one after the other, are a layer. Assumes nothing.
use mathlib.Core.Path.{sym, ◌∙◌, ap}
use mathlib.Core.Bool.{Bool, cond}
use mathlib.Core.List.{List}
use Prim.Native.Nat.{ℕ, ◌*◌, ◌<◌}
use native.Mathlib.Omega.{arith}
use lib.ListN.{length}
use lib.Ieee.{Float}
use borrow.Author.Tests.{lt-ltb, le-ltb}
use Rattle.lists.specs.Region.{Holds}
use Rattle.lists.proofs.Regions.{holds_free}
use Rattle.ring.specs.Memory.{Memory}
use Rattle.description.specs.Parts.{slots_of}
use Rattle.description.specs.Ranges.{Low}
use Rattle.description.specs.Tally.{past_all}
use Rattle.description.specs.declared.records.ArrayRecord.{ArrayRecord}
use Rattle.description.specs.declared.records.LayerRecord.{LayerRecord}
use Rattle.description.specs.declared.places.Place.{Place}
use Rattle.layer.specs.Layered.{slot_memory, memories_at, LayerFits, LayeredAs, Layered}
use Rattle.layer.specs.Slots.{turn_of}
use Rattle.layer.specs.Pieces.{UnderWay, Leaves, Fronted, Mixed, GatedPast, Headed, Residual}
use Rattle.layer.proofs.Steps.{turn_lt}
use Rattle.layer.proofs.Whole.{leaves_then}

pub layer_low : {a : ArrayRecord} {r : LayerRecord} {start : Place} {size m nwork : ℕ} {histories : List Float} {positions : List ℕ} {weights : List Float}
    → LayerFits a r start size m nwork histories positions weights → Low 0xffff_ffff (past_all start (slots_of a r))
unfolding past_all
layer_low f = record {
  weights = omega (arith, f.weights_inside, f.few_weights);
  histories = omega (arith, f.histories_in, f.few);
  positions = omega (arith, f.positions_in, f.few_positions);
}

module _ {a : ArrayRecord} {r : LayerRecord} {start : Place} {weights : List Float} {size m result : ℕ} {w0 h0 w1 h1 w2 h2 w3 h3 w4 h4 w5 h5 : List Float} {p0 p1 p2 p3 p4 p5 : List ℕ}
    (fits : LayerFits a r start size m (length w0) h0 p0 weights)
    (fr : Fronted a r start weights size m w0 h0 p0 w1 h1 p1) (mx : Mixed a r start weights size m w1 h1 p1 w2 h2 p2) (gt : GatedPast a r start weights size m w2 h2 p2 w3 h3 p3)
    (hd : Headed a r start weights size m w3 h3 p3 w4 h4 p4) (rs : Residual a r start weights size m w4 h4 p4 w5 h5 p5 result) where
  all_leave : Leaves a r start weights size m w0 h0 p0 w5 h5 p5 (λ i. i < 2 * size)
  all_leave =
      leaves_then
      (leaves_then
      (leaves_then
      (leaves_then fr.leaves mx.leaves (λ i h. omega (arith, h)) (λ i (h : i < 2 * size). (omega (arith, h), omega (arith, h))))
      gt.leaves (λ i h. h) (λ i (h : i < 2 * size). omega (arith, h)))
      hd.leaves (λ i h. h) (λ i (h : i < 2 * size). (omega (arith, h), omega (arith, h))))
      rs.leaves (λ i h. h) (λ i h. omega (arith, h))

  module _ (x c h : ℕ → ℕ → Float) (hx : Holds (2 * size) a.channels m (λ o t. x t o) w0) (hc : Holds (3 * size) a.condition m (λ o t. c t o) w0)
      (hh : Holds (4 * size) a.head_in m (λ o t. h t o) w0) where
    abbrev s : ℕ → Memory
    s = slot_memory a r start h0 p0

    begun : UnderWay a r start weights size m x c s 0 w0 h0 p0
    unfolding memories_at
    begun = record {
      input = hx;
      condition = hc;
      memories = λ k hk. ap (λ (b : Bool). memories_at a r start weights x c s (cond b m 0) k) (sym (le-ltb (turn_of k) 0 (omega arith)));
    }

    layered_as : LayeredAs a r start weights size m result w0 h0 p0 w5 h5 p5 x c h
    layered_as =
        let q1 = fr.by x c s begun in
        let q2 = mx.by x c s q1.0 in
        let conv = holds_free mx.leaves.others (λ i lo hi. (omega (arith, lo), omega (arith, hi, fits.mid_in))) q1.1 in
        let q3 = gt.by x c s q2.0 conv q2.1 in
        let h1 = holds_free fr.leaves.others (λ i lo hi. omega (arith, hi, fits.head_in)) hh in
        let h2 = holds_free mx.leaves.others (λ i lo hi. (omega (arith, hi, fits.head_in), omega (arith, hi, fits.head_in))) h1 in
        let h3 = holds_free gt.leaves.others (λ i lo hi. omega (arith, hi, fits.head_in)) h2 in
        let q4 = hd.by x c h s q3.0 q3.1 h3 in
        let g4 = holds_free hd.leaves.others (λ i lo hi. (omega (arith, lo), omega (arith, hi, fits.bottleneck_in))) q3.1 in
        let q5 = rs.by x c s q4.0 g4 in
        record {
          signals = q5.1;
          accumulators = holds_free rs.leaves.others (λ i lo hi. omega (arith, hi, fits.head_in)) q4.1;
          memories = λ k hk. q5.0.memories k hk ∙ ap (λ (b : Bool). memories_at a r start weights x c s (cond b m 0) k) (lt-ltb (turn_of k) 12 (turn_lt k hk));
        }

  pub layer_is : Layered a r start weights size m result w0 h0 p0 w5 h5 p5
  layer_is = record {
    by = layered_as;
    result_in = rs.result_in;
    places = all_leave.places;
    others = all_leave.others;
    histories_kept = all_leave.histories_kept;
    positions_kept = all_leave.positions_kept;
  }
