-- The pieces of a layer, one step after the other, come to the trace. Assumes nothing.
use Rattle.std.specs.Prelude.{None, Some}
use mathlib.Core.Path.{◌≡◌, refl, sym, ◌∙◌, ap}
use mathlib.Core.Bool.{Bool, true, false, ◌&&◌}
use mathlib.Core.List.{List}
use mathlib.Core.Logic.{inl, inr}
use Prim.Native.Nat.{ℕ, suc, ◌+◌, ◌*◌, ◌≤◌, ◌<◌}
use native.Mathlib.Omega.{arith}
use lib.ListN.{length}
use lib.Ieee.{Float, nan, binary32, add}
use Rattle.lists.specs.Tab.{at, fill}
use Rattle.lists.specs.Region.{Apart, Holds, Free}
use Rattle.lists.proofs.Nums.{cell_lt}
use Rattle.lists.proofs.Regions.{free_as, free_self, free_then, fill_free, fill_holds, holds_as, holds_free, cell_is}
use Rattle.ring.specs.Memory.{Memory}
use Rattle.shape.specs.declared.Shape.{Shape}
use Rattle.activation.specs.declared.Activation.{Activation}
use Rattle.gating.specs.declared.Mode.{Mode}
use Rattle.gating.specs.declared.Mode.TheVariants.{None, Gated, Blended}
use Rattle.gating.specs.Joined.{input_rows, joined}
use Rattle.gating.specs.Over.{GatingFits, GatedOver}
use Rattle.description.specs.Parts.{conv_of, mixin_of, layer1x1_of, head1x1_of, mid, slots_of, part_of, site_width, unless0, pointwise}
use Rattle.description.specs.Refusals.{head_width}
use Rattle.description.specs.Sizes.{histories_of, positions_of}
use borrow.Author.Tests.{eq-eqb, ne_eqb}
use Rattle.description.specs.declared.records.ArrayRecord.{ArrayRecord}
use Rattle.description.specs.declared.records.LayerRecord.{LayerRecord}
use Rattle.description.specs.Part.{Part}
use Rattle.description.specs.declared.places.Place.{Place}
use Rattle.slot.specs.Steps.{pushed, convolved}
use Rattle.slot.specs.Site.{result_at}
use Rattle.layer.specs.Column.{is_there, is_blended, applies, applied_site, site', after, conv_input, conv', conv_output, mixin_input, mixin', mixin_output, gated, z, head1x1', layer1x1', contribution, accumulated, signal}
use Rattle.layer.specs.Slots.{turn_of}
use Rattle.layer.proofs.Steps.{advance, unplayed}
use Rattle.layer.proofs.Asks.{still}
use Rattle.layer.specs.Layered.{slot_weights, memories_at, LayerFits}
use Rattle.layer.specs.Pieces.{Behind, Room, ins_of, outs_of, UnderWay, Leaves, SitePast, ConvPast, Fronted, Mixed, GatedPast, Headed, Residual}

-- by a width that is the same number
wide : {a w v m : ℕ} {g : ℕ → ℕ → Float} {work : List Float} → w ≡ v → Holds a w m g work → Holds a v m g work
wide e h = record { is = λ c t hc ht. h.is c t (omega (arith, hc, e)) ht }

-- ---- one after the other
pub leaves_then : {a : ArrayRecord} {r : LayerRecord} {start : Place} {weights : List Float} {size m : ℕ} {w0 h0 w1 h1 w2 h2 : List Float} {p0 p1 p2 : List ℕ} {P Q R : ℕ → Type 0}
    → Leaves a r start weights size m w0 h0 p0 w1 h1 p1 P → Leaves a r start weights size m w1 h1 p1 w2 h2 p2 Q → ((i : ℕ) → R i → P i) → ((i : ℕ) → R i → Q i)
    → Leaves a r start weights size m w0 h0 p0 w2 h2 p2 R
leaves_then p q f g = record {
  others = free_then p.others q.others f g;
  places = q.places;
  histories_kept = free_then p.histories_kept q.histories_kept (λ i h. h) (λ i h. h);
  positions_kept = free_then p.positions_kept q.positions_kept (λ i h. h) (λ i h. h);
}

-- what a layer asks, it may ask again
pub fits_on : {a : ArrayRecord} {r : LayerRecord} {start : Place} {weights : List Float} {size m : ℕ} {w0 h0 w1 h1 : List Float} {p0 p1 : List ℕ} {P : ℕ → Type 0}
    → LayerFits a r start size m (length w0) h0 p0 weights → Leaves a r start weights size m w0 h0 p0 w1 h1 p1 P → LayerFits a r start size m (length w1) h1 p1 weights
fits_on f l =
    let lw = l.others.long in
    let lh = l.histories_kept.long in
    let lp = l.positions_kept.long in
    record {
      array = f.array;
      layer = f.layer;
      some = f.some;
      channels_in = f.channels_in;
      condition_in = f.condition_in;
      head_in = f.head_in;
      mid_in = f.mid_in;
      bottleneck_in = f.bottleneck_in;
      head1x1_in = f.head1x1_in;
      work_in = omega (arith, f.work_in, lw);
      small = omega (arith, f.small, lw);
      head_wide = f.head_wide;
      residual_width = f.residual_width;
      slots = λ k h sh e. let s = f.slots k h sh e in record { range = s.range; divided = s.divided; place_in = l.places k h sh e };
      weights_inside = f.weights_inside;
      histories_in = omega (arith, f.histories_in, lh);
      positions_in = omega (arith, f.positions_in, lp);
      few = omega (arith, f.few, lh);
      few_weights = f.few_weights;
      few_positions = omega (arith, f.few_positions, lp);
    }

-- the regions that pieces write
pub room5 : (size : ℕ) → Room size (5 * size)
room5 size = record { past = omega arith; end = omega arith; beside = omega arith }

pub room6 : (size : ℕ) → Room size (6 * size)
room6 size = record { past = omega arith; end = omega arith; beside = omega arith }

pub room7 : (size : ℕ) → Room size (7 * size)
room7 size = record { past = omega arith; end = omega arith; beside = omega arith }

pub room8 : (size : ℕ) → Room size (8 * size)
room8 size = record { past = omega arith; end = omega arith; beside = omega arith }

pub room12 : (size : ℕ) → Room size (12 * size)
room12 size = record { past = omega arith; end = omega arith; beside = omega arith }

pub room13 : (size : ℕ) → Room size (13 * size)
room13 size = record { past = omega arith; end = omega arith; beside = omega arith }

-- sites 0 to 5 are played in any case
pub behind : {a : ArrayRecord} {r : LayerRecord} (i : ℕ) → i < 6 → Behind a r i
behind i h = record { site_in = omega arith; layer1x1_there = λ e. absurd (omega arith); head1x1_there = λ e. absurd (omega arith) }

-- where a site leaves its columns
pub result_le : (p : Part) (to from result : ℕ) → result ≡ result_at p to from → from ≤ to → result ≤ to
unfolding result_at
result_le None to from result e h = omega arith
result_le (Some sh) to from result e h = omega arith

module _ {a : ArrayRecord} {r : LayerRecord} {start : Place} {weights : List Float} {size m : ℕ} {w0 h0 w1 h1 w2 h2 w3 h3 : List Float} {p0 p1 p2 p3 : List ℕ} {from : ℕ} where
  -- site 0, conv, site 1
  module _ (s1 : SitePast a r start weights size m w0 h0 p0 w1 h1 p1 0 (2 * size) (5 * size) from)
      (s2 : ConvPast a r start weights size m w1 h1 p1 w2 h2 p2 0 from (7 * size))
      (s3 : SitePast a r start weights size m w2 h2 p2 w3 h3 p3 1 (7 * size) (7 * size) (7 * size)) where
    front_by : (x c : ℕ → ℕ → Float) (s : ℕ → Memory) → UnderWay a r start weights size m x c s 0 w0 h0 p0
        → UnderWay a r start weights size m x c s 3 w3 h3 p3
        × Holds (7 * size) (mid r) m (λ o t. conv_output a r (slot_weights a r start weights) (memories_at a r start weights x c s t) (x t) (c t) o) w3
    unfolding site_width ins_of outs_of part_of slots_of conv_of memories_at after conv' conv_input conv_output
    front_by x c s u =
        let W = slot_weights a r start weights in
        let M : ℕ → ℕ → Memory = memories_at a r start weights x c s in
        let q1 = s1.by x c s x u u.input in
        let q2 = s2.by x c s (λ t. conv_input a r W (M t) (x t) (c t)) q1.0 q1.1 (λ t. refl) in
        s3.by x c s (λ t. convolved (conv_of a r) (W 0) (conv' a r W (M t) (x t) (c t))) q2.0 q2.1

    pub front_is : Fronted a r start weights size m w0 h0 p0 w3 h3 p3
    front_is = record {
      by = front_by;
      leaves = leaves_then (leaves_then s1.leaves s2.leaves (λ i h. (omega (arith, h), omega (arith, h))) (λ i (h : i < 5 * size). (omega (arith, h), omega (arith, h))))
          s3.leaves (λ i h. h) (λ i h. (omega (arith, h), omega (arith, h)));
    }

  -- site 2, mixin, site 3
  module _ (s1 : SitePast a r start weights size m w0 h0 p0 w1 h1 p1 2 (3 * size) (5 * size) from)
      (s2 : ConvPast a r start weights size m w1 h1 p1 w2 h2 p2 1 from (8 * size))
      (s3 : SitePast a r start weights size m w2 h2 p2 w3 h3 p3 3 (8 * size) (8 * size) (8 * size)) where
    mixer_by : (x c : ℕ → ℕ → Float) (s : ℕ → Memory) → UnderWay a r start weights size m x c s 3 w0 h0 p0
        → UnderWay a r start weights size m x c s 6 w3 h3 p3
        × Holds (8 * size) (mid r) m (λ o t. mixin_output a r (slot_weights a r start weights) (memories_at a r start weights x c s t) (x t) (c t) o) w3
    unfolding site_width ins_of outs_of part_of slots_of mixin_of memories_at after mixin' mixin_input mixin_output
    mixer_by x c s u =
        let W = slot_weights a r start weights in
        let M : ℕ → ℕ → Memory = memories_at a r start weights x c s in
        let q1 = s1.by x c s c u u.condition in
        let q2 = s2.by x c s (λ t. mixin_input a r W (M t) (x t) (c t)) q1.0 q1.1 (λ t. refl) in
        s3.by x c s (λ t. convolved (mixin_of a r) (W 1) (mixin' a r W (M t) (x t) (c t))) q2.0 q2.1

    pub mixer_is : Mixed a r start weights size m w0 h0 p0 w3 h3 p3
    mixer_is = record {
      by = mixer_by;
      leaves = leaves_then (leaves_then s1.leaves s2.leaves (λ i h. (h.0, omega (arith, h.1)))
          (λ i (h : Apart (5 * size) size i 1 × (i < 8 * size)). (omega (arith, h.1), omega (arith, h.1))))
          s3.leaves (λ i h. h) (λ i h. (omega (arith, h.1), omega (arith, h.1)));
    }

-- ---- gating: z's rows, and behind them as many g's where there are any
rows_are : (mode : Mode) (b m : ℕ) → input_rows mode (b * m) ≡ input_rows mode b * m
unfolding input_rows
rows_are None b m = refl
rows_are Gated b m = omega arith
rows_are Blended b m = omega arith

rows_le : (mode : Mode) (b : ℕ) → b ≤ input_rows mode b
unfolding input_rows
rows_le None b = omega arith
rows_le Gated b = omega arith
rows_le Blended b = omega arith

-- the g of a value, where the mode asks for one
joined_as : (mode : Mode) (p q : Activation) (b m at1 : ℕ) (v : ℕ → ℕ → Float) (w : List Float) → Holds at1 (input_rows mode b) m (λ o t. v t o) w
    → (c t : ℕ) → c < b → t < m → (f : Float) → joined mode p q f (at w (at1 + b * m + (c * m + t))) ≡ joined mode p q f (v t (c + b))
unfolding input_rows joined
joined_as None p q b m at1 v w h c t hc ht f = refl
joined_as Gated p q b m at1 v w h c t hc ht f =
    let e : at1 + b * m + (c * m + t) ≡ at1 + (c + b) * m + t = omega arith in rw (e, h.is (c + b) t (omega arith) ht)
joined_as Blended p q b m at1 v w h c t hc ht f =
    let e : at1 + b * m + (c * m + t) ≡ at1 + (c + b) * m + t = omega arith in rw (e, h.is (c + b) t (omega arith) ht)

gating_holds : (mode : Mode) (p q : Activation) (b m out at1 : ℕ) (v : ℕ → ℕ → Float) (w w' : List Float) → Holds at1 (input_rows mode b) m (λ o t. v t o) w
    → GatedOver mode p q out at1 (b * m) w w' → Holds out b m (λ o t. joined mode p q (v t o) (v t (o + b))) w'
gating_holds mode p q b m out at1 v w w' h g = record {
  is = λ c t hc ht.
      sym (cell_is out m w' c t)
      ∙ g.results (c * m + t) (cell_lt c b m t hc ht)
      ∙ ap (λ (f : Float). joined mode p q f (at w (at1 + b * m + (c * m + t)))) (cell_is at1 m w c t ∙ h.is c t (omega (arith, rows_le mode b, hc)) ht)
      ∙ joined_as mode p q b m at1 v w h c t hc ht (v t c);
}

-- two regions that hold columns, one added to the other
add_holds : (to from n m : ℕ) (f g : ℕ → ℕ → Float) (w w' : List Float) → w' ≡ fill to (n * m) (λ i. add binary32 (at w (to + i)) (at w (from + i))) w → to + n * m ≤ length w
    → Holds to n m f w → Holds from n m g w → Holds to n m (λ o t. add binary32 (f o t) (g o t)) w'
add_holds to from n m f g w w' e b hf hg =
    fill_holds to n m _ _ w w' e b (λ o t ho ht. rw (cell_is to m w o t, cell_is from m w o t, hf.is o t ho ht, hg.is o t ho ht))

-- a step that touches only `work`
pub only_work : {a : ArrayRecord} {r : LayerRecord} {start : Place} {weights : List Float} {size m : ℕ} {w0 h w1 : List Float} {p : List ℕ} {P : ℕ → Type 0}
    → LayerFits a r start size m (length w0) h p weights → Free nan P w0 w1 → Leaves a r start weights size m w0 h p w1 h p P
only_work f k = record { others = k; places = λ j hj sh e. (f.slots j hj sh e).place_in; histories_kept = free_self; positions_kept = free_self }

under_way_on : {a : ArrayRecord} {r : LayerRecord} {start : Place} {weights : List Float} {size m n : ℕ} {w0 h w1 : List Float} {p : List ℕ} {P : ℕ → Type 0} {x c : ℕ → ℕ → Float}
    {s : ℕ → Memory} → LayerFits a r start size m (length w0) h p weights → Free nan P w0 w1 → ((i : ℕ) → i < 4 * size → P i)
    → UnderWay a r start weights size m x c s n w0 h p → UnderWay a r start weights size m x c s n w1 h p
under_way_on f k g u = record {
  input = holds_free k (λ i lo hi. g i (omega (arith, hi, f.channels_in))) u.input;
  condition = holds_free k (λ i lo hi. g i (omega (arith, hi, f.condition_in))) u.condition;
  memories = u.memories;
}

-- numbers added in place, n rows at `to`
module _ {a : ArrayRecord} {r : LayerRecord} {start : Place} {weights : List Float} {size m : ℕ} (w0 w1 : List Float) {h0 : List Float} {p0 : List ℕ}
    (fits : LayerFits a r start size m (length w0) h0 p0 weights) (to n : ℕ) (f : ℕ → Float) (narrow : n * m ≤ size) (e : w1 ≡ fill to (n * m) f w0) where
  pub add_kept : Free nan (λ i. Apart to size i 1) w0 w1
  add_kept = free_as (fill_free nan _ _ _ w0 w1 e) (λ i h. omega (arith, h, narrow))

  pub add_leaves : Leaves a r start weights size m w0 h0 p0 w1 h0 p0 (λ i. Apart to size i 1)
  add_leaves = only_work fits add_kept

module _ {a : ArrayRecord} {r : LayerRecord} {start : Place} {weights : List Float} {size m : ℕ} (w2 w3 : List Float) {h2 : List Float} {p2 : List ℕ}
    (fits : LayerFits a r start size m (length w2) h2 p2 weights)
    (g : GatedOver r.mode r.primary r.secondary (6 * size) (7 * size) (r.bottleneck * m) w2 w3) where
  gating_kept : Free nan (λ i. i < 6 * size) w2 w3
  gating_kept = free_as g.kept (λ i h. (omega (arith, h), omega (arith, h)))

  pub gating_leaves : Leaves a r start weights size m w2 h2 p2 w3 h2 p2 (λ i. i < 6 * size)
  gating_leaves = only_work fits gating_kept

pub gating_fits : {a : ArrayRecord} {r : LayerRecord} {start : Place} {weights : List Float} {size m nwork : ℕ} {h : List Float} {p : List ℕ}
    → LayerFits a r start size m nwork h p weights → GatingFits r.mode (6 * size) (7 * size) (r.bottleneck * m) nwork
unfolding mid
gating_fits {a} {r} {start} {weights} {size} {m} f = record {
  before = omega (arith, f.bottleneck_in);
  in_work = omega (arith, rows_are r.mode r.bottleneck m, f.mid_in, f.work_in);
}

-- z, site 4, gating, site 5
module _ {a : ArrayRecord} {r : LayerRecord} {start : Place} {weights : List Float} {size m : ℕ} (w0 w1 w2 w3 w4 : List Float) {h0 h2 h4 : List Float} {p0 p2 p4 : List ℕ}
    (fits : LayerFits a r start size m (length w0) h0 p0 weights)
    (s1 : w1 ≡ fill (7 * size) (mid r * m) (λ i. add binary32 (at w0 (7 * size + i)) (at w0 (8 * size + i))) w0)
    (s2 : SitePast a r start weights size m w1 h0 p0 w2 h2 p2 4 (7 * size) (7 * size) (7 * size))
    (s3 : GatedOver r.mode r.primary r.secondary (6 * size) (7 * size) (r.bottleneck * m) w2 w3)
    (s4 : SitePast a r start weights size m w3 h2 p2 w4 h4 p4 5 (6 * size) (6 * size) (6 * size)) where
  sum_leaves : Leaves a r start weights size m w0 h0 p0 w1 h0 p0 (λ i. Apart (7 * size) size i 1)
  sum_leaves = add_leaves w0 w1 fits (7 * size) (mid r) _ fits.mid_in s1

  fits2 : LayerFits a r start size m (length w2) h2 p2 weights
  fits2 = fits_on (fits_on fits sum_leaves) s2.leaves

  gate_by : (x c : ℕ → ℕ → Float) (s : ℕ → Memory) → UnderWay a r start weights size m x c s 6 w0 h0 p0
      → Holds (7 * size) (mid r) m (λ o t. conv_output a r (slot_weights a r start weights) (memories_at a r start weights x c s t) (x t) (c t) o) w0
      → Holds (8 * size) (mid r) m (λ o t. mixin_output a r (slot_weights a r start weights) (memories_at a r start weights x c s t) (x t) (c t) o) w0
      → UnderWay a r start weights size m x c s 8 w4 h4 p4 × Holds (6 * size) r.bottleneck m (λ o t. gated a r (slot_weights a r start weights) (memories_at a r start weights x c s t) (x t) (c t) o) w4
  unfolding site_width mid z gated
  gate_by x c s u a1 a2 =
      let W = slot_weights a r start weights in
      let M : ℕ → ℕ → Memory = memories_at a r start weights x c s in
      let u1 = under_way_on fits sum_leaves.others (λ i h. omega (arith, h)) u in
      let sum = add_holds (7 * size) (8 * size) (mid r) m _ _ w0 w1 s1 (omega (arith, fits.mid_in, fits.work_in)) a1 a2 in
      let q2 = s2.by x c s (λ t o. add binary32 (conv_output a r W (M t) (x t) (c t) o) (mixin_output a r W (M t) (x t) (c t) o)) u1 sum in
      let u3 = under_way_on fits2 (gating_kept w2 w3 fits2 s3) (λ i h. omega (arith, h)) q2.0 in
      let g = gating_holds r.mode r.primary r.secondary r.bottleneck m (6 * size) (7 * size) (λ t. z a r W (M t) (x t) (c t)) w2 w3 q2.1 s3 in
      s4.by x c s (λ t o. joined r.mode r.primary r.secondary (z a r W (M t) (x t) (c t) o) (z a r W (M t) (x t) (c t) (o + r.bottleneck))) u3 g

  pub gate_is : GatedPast a r start weights size m w0 h0 p0 w4 h4 p4
  gate_is = record {
    by = gate_by;
    leaves = leaves_then (leaves_then (leaves_then sum_leaves s2.leaves (λ i h. omega (arith, h)) (λ i (h : i < 6 * size). (omega (arith, h), omega (arith, h)))) (gating_leaves w2 w3 fits2 s3)
        (λ i h. h) (λ i h. h))
        s4.leaves (λ i h. h) (λ i h. (omega (arith, h), omega (arith, h)));
  }

-- ---- a part that a 0 leaves out, or not
module _ (n : ℕ) (sh : Shape) where
  pub unless_none : n ≡ 0 → unless0 n sh ≡ None
  unfolding unless0
  unless_none e = rw (eq-eqb n 0 e)

  pub unless_some : (n ≡ 0 → ⊥) → unless0 n sh ≡ Some sh
  unfolding unless0
  unless_some ne = rw (ne_eqb n 0 ne)

-- sites 6 and 7 behind their convolutions
module _ (a : ArrayRecord) (r : LayerRecord) where
  pub behind_layer1x1 : (r.layer1x1_groups ≡ 0 → ⊥) → Behind a r 6
  unfolding layer1x1_of
  behind_layer1x1 ne = record {
    site_in = omega arith;
    layer1x1_there = λ e. ap is_there (unless_some _ _ ne);
    head1x1_there = λ e. absurd (omega arith);
  }

  pub behind_head1x1 : (r.head1x1_width ≡ 0 → ⊥) → Behind a r 7
  unfolding head1x1_of
  behind_head1x1 ne = record {
    site_in = omega arith;
    layer1x1_there = λ e. absurd (omega arith);
    head1x1_there = λ e. ap is_there (unless_some _ _ ne);
  }

  pub last_is : (r.head1x1_width ≡ 0 → ⊥) → r.head1x1_width ≡ site_width a r 7
  unfolding site_width
  last_is ne = rw (ne_eqb r.head1x1_width 0 ne)

-- slot k without its part, and a site that is not applied: the turn passes
module _ {a : ArrayRecord} {r : LayerRecord} {start : Place} {weights : List Float} {size m nwork : ℕ} {w h : List Float} {p : List ℕ}
    (fits : LayerFits a r start size m nwork h p weights) {x c : ℕ → ℕ → Float} {s : ℕ → Memory} where
  skip : (j : ℕ) → j < 12 → ((t : ℕ) → memories_at a r start weights x c s (suc t) j ≡ memories_at a r start weights x c s t j)
      → UnderWay a r start weights size m x c s (turn_of j) w h p → UnderWay a r start weights size m x c s (suc (turn_of j)) w h p
  unfolding histories_of positions_of
  skip j hj step u =
      advance fits j hj None (omega arith) (omega arith) free_self free_self (free_self {P = λ n. Unit {0}}) (λ n h. tt) u
      (unplayed j hj u ∙ sym (still (λ t. memories_at a r start weights x c s t j) step m))

-- head1x1, site 7, the accumulator
module _ {a : ArrayRecord} {r : LayerRecord} {start : Place} {weights : List Float} {size m : ℕ} (w0 w1 : List Float) {h0 : List Float} {p0 : List ℕ}
    (fits : LayerFits a r start size m (length w0) h0 p0 weights) (none : r.head1x1_width ≡ 0)
    (s1 : w1 ≡ fill (4 * size) (r.bottleneck * m) (λ i. add binary32 (at w0 (4 * size + i)) (at w0 (6 * size + i))) w0) where
  absent_head : head1x1_of a r ≡ None
  unfolding head1x1_of
  absent_head = unless_none _ _ none

  absent_site : applied_site a r 7 ≡ None
  unfolding applied_site applies
  absent_site = rw absent_head

  narrow_head : r.bottleneck ≡ a.head_in
  unfolding head_width
  narrow_head = rw (eq-eqb r.head1x1_width 0 none) at fits.head_wide

  bare_by : (x c h : ℕ → ℕ → Float) (s : ℕ → Memory) → UnderWay a r start weights size m x c s 8 w0 h0 p0 → Holds (6 * size) r.bottleneck m (λ o t. gated a r (slot_weights a r start weights) (memories_at a r start weights x c s t) (x t) (c t) o) w0
      → Holds (4 * size) a.head_in m (λ o t. h t o) w0
      → UnderWay a r start weights size m x c s 10 w1 h0 p0
      × Holds (4 * size) a.head_in m (λ o t. accumulated a r (slot_weights a r start weights) (memories_at a r start weights x c s t) (x t) (c t) (h t) o) w1
  unfolding memories_at after head1x1' site' pushed contribution accumulated
  bare_by x c h s u g acc =
      let u1 = under_way_on fits (add_kept w0 w1 fits (4 * size) r.bottleneck _ fits.bottleneck_in s1) (λ i k. omega (arith, k)) u in
      let f1 = fits_on fits (add_leaves w0 w1 fits (4 * size) r.bottleneck _ fits.bottleneck_in s1) in
      let acc' : Holds (4 * size) r.bottleneck m (λ o t. h t o) w0 = record { is = λ o t ho ht. acc.is o t (omega (arith, ho, narrow_head)) ht } in
      let sum = add_holds (4 * size) (6 * size) r.bottleneck m _ _ w0 w1 s1 (omega (arith, fits.bottleneck_in, fits.work_in)) acc' g in (
        skip f1 11 (omega arith) (λ t. rw absent_site) (skip f1 3 (omega arith) (λ t. rw absent_head) u1),
        record { is = λ o t ho ht. sum.is o t (omega (arith, ho, narrow_head)) ht ∙ rw absent_head },
      )

  pub bare_head : Headed a r start weights size m w0 h0 p0 w1 h0 p0
  bare_head = record {
    by = bare_by;
    leaves = only_work fits (free_as (add_kept w0 w1 fits (4 * size) r.bottleneck _ fits.bottleneck_in s1) (λ i h. omega (arith, h.0)));
  }

module _ {a : ArrayRecord} {r : LayerRecord} {start : Place} {weights : List Float} {size m : ℕ} (w0 w1 w2 w3 : List Float) {h0 h1 h2 : List Float} {p0 p1 p2 : List ℕ}
    (fits : LayerFits a r start size m (length w0) h0 p0 weights) (some : r.head1x1_width ≡ 0 → ⊥)
    (s1 : ConvPast a r start weights size m w0 h0 p0 w1 h1 p1 3 (6 * size) (12 * size))
    (s2 : SitePast a r start weights size m w1 h1 p1 w2 h2 p2 7 (12 * size) (12 * size) (12 * size))
    (s3 : w3 ≡ fill (4 * size) (r.head1x1_width * m) (λ i. add binary32 (at w2 (4 * size + i)) (at w2 (12 * size + i))) w2) where
  head_shape : Shape
  head_shape = pointwise r.bottleneck r.head1x1_width r.head1x1_groups r.head1x1_bias

  head_there : head1x1_of a r ≡ Some head_shape
  unfolding head1x1_of head_shape
  head_there = unless_some _ _ some

  wide_head : r.head1x1_width ≡ a.head_in
  unfolding head_width
  wide_head = rw (ne_eqb r.head1x1_width 0 some) at fits.head_wide

  site_wide : site_width a r 7 ≡ r.head1x1_width
  site_wide = sym (last_is a r some)

  head_sides : (ins_of (part_of a r 3) ≡ r.bottleneck) × (outs_of (part_of a r 3) ≡ r.head1x1_width)
  unfolding part_of slots_of ins_of outs_of head_shape
  head_sides = (ap ins_of head_there, ap outs_of head_there)

  head_fits : LayerFits a r start size m (length w2) h2 p2 weights
  head_fits = fits_on (fits_on fits s1.leaves) s2.leaves

  two_leave : Leaves a r start weights size m w0 h0 p0 w2 h2 p2 (λ i. i < 9 * size)
  two_leave = leaves_then s1.leaves s2.leaves (λ i h. (omega (arith, h), omega (arith, h))) (λ i h. (omega (arith, h), omega (arith, h)))

  head_by : (x c h : ℕ → ℕ → Float) (s : ℕ → Memory) → UnderWay a r start weights size m x c s 8 w0 h0 p0 → Holds (6 * size) r.bottleneck m (λ o t. gated a r (slot_weights a r start weights) (memories_at a r start weights x c s t) (x t) (c t) o) w0
      → Holds (4 * size) a.head_in m (λ o t. h t o) w0
      → UnderWay a r start weights size m x c s 10 w3 h2 p2
      × Holds (4 * size) a.head_in m (λ o t. accumulated a r (slot_weights a r start weights) (memories_at a r start weights x c s t) (x t) (c t) (h t) o) w3
  unfolding part_of slots_of memories_at after head1x1' contribution accumulated
  head_by x c h s u g acc =
      let W = slot_weights a r start weights in
      let M : ℕ → ℕ → Memory = memories_at a r start weights x c s in
      let q1 = s1.by x c s (λ t. gated a r W (M t) (x t) (c t)) u (wide (sym head_sides.0) g) (λ t. refl) in
      let q2 = s2.by x c s (λ t. convolved (head1x1_of a r) (W 3) (head1x1' a r W (M t) (x t) (c t))) q1.0 (wide (head_sides.1 ∙ sym site_wide) q1.1) in
      let acc2 : Holds (4 * size) r.head1x1_width m (λ o t. h t o) w2 =
      wide (sym wide_head) (holds_free two_leave.others (λ i lo hi. omega (arith, hi, fits.head_in)) acc) in
      let sum = add_holds (4 * size) (12 * size) r.head1x1_width m _ _ w2 w3 s3 (omega (arith, fits.head1x1_in, head_fits.work_in)) acc2 (wide site_wide q2.1) in (
        under_way_on head_fits (add_kept w2 w3 head_fits (4 * size) r.head1x1_width _ fits.head1x1_in s3) (λ i k. omega (arith, k)) q2.0,
        record { is = λ o t ho ht. sum.is o t (omega (arith, ho, wide_head)) ht ∙ rw head_there },
      )

  pub head_is : Headed a r start weights size m w0 h0 p0 w3 h2 p2
  head_is = record {
    by = head_by;
    leaves = leaves_then two_leave (add_leaves w2 w3 head_fits (4 * size) r.head1x1_width _ fits.head1x1_in s3) (λ i h. h.1) (λ i (h : Apart (4 * size) size i 1 × (i < 9 * size)). h.0);
  }

-- layer1x1, site 6, the layer's input
module _ {a : ArrayRecord} {r : LayerRecord} {start : Place} {weights : List Float} {size m : ℕ} (w0 : List Float) {h0 : List Float} {p0 : List ℕ}
    (fits : LayerFits a r start size m (length w0) h0 p0 weights) (none : r.layer1x1_groups ≡ 0) where
  absent_layer : layer1x1_of a r ≡ None
  unfolding layer1x1_of
  absent_layer = unless_none _ _ none

  never : (b : Bool) → (b && false) ≡ false
  never true = refl
  never false = refl

  absent_six : applied_site a r 6 ≡ None
  unfolding applied_site applies
  absent_six = rw (absent_layer, never (is_blended r.mode))

  bare_signal : (x c : ℕ → ℕ → Float) (s : ℕ → Memory) → UnderWay a r start weights size m x c s 10 w0 h0 p0 → Holds (6 * size) r.bottleneck m (λ o t. gated a r (slot_weights a r start weights) (memories_at a r start weights x c s t) (x t) (c t) o) w0
      → UnderWay a r start weights size m x c s 12 w0 h0 p0 × Holds (2 * size) a.channels m (λ o t. signal a r (slot_weights a r start weights) (memories_at a r start weights x c s t) (x t) (c t) o) w0
  unfolding memories_at after layer1x1' site' pushed signal
  bare_signal x c s u g = (
    skip fits 10 (omega arith) (λ t. rw absent_six) (skip fits 2 (omega arith) (λ t. rw absent_layer) u),
    holds_as u.input (λ o t ho ht. rw absent_layer),
  )

  pub bare_residual : Residual a r start weights size m w0 h0 p0 w0 h0 p0 (2 * size)
  bare_residual = record { by = bare_signal; result_in = inl refl; leaves = only_work fits free_self }

module _ {a : ArrayRecord} {r : LayerRecord} {start : Place} {weights : List Float} {size m : ℕ} (w0 w1 w2 w3 : List Float) {h0 h1 h2 : List Float} {p0 p1 p2 : List ℕ}
    (fits : LayerFits a r start size m (length w0) h0 p0 weights) (some : r.layer1x1_groups ≡ 0 → ⊥)
    (s1 : ConvPast a r start weights size m w0 h0 p0 w1 h1 p1 2 (6 * size) (13 * size))
    (s2 : SitePast a r start weights size m w1 h1 p1 w2 h2 p2 6 (13 * size) (13 * size) (13 * size))
    (s3 : w3 ≡ fill (13 * size) (a.channels * m) (λ i. add binary32 (at w2 (13 * size + i)) (at w2 (2 * size + i))) w2) where
  layer_shape : Shape
  layer_shape = pointwise r.bottleneck a.channels r.layer1x1_groups r.layer1x1_bias

  layer_there : layer1x1_of a r ≡ Some layer_shape
  unfolding layer1x1_of layer_shape
  layer_there = unless_some _ _ some

  layer_sides : (ins_of (part_of a r 2) ≡ r.bottleneck) × (outs_of (part_of a r 2) ≡ a.channels)
  unfolding part_of slots_of ins_of outs_of layer_shape
  layer_sides = (ap ins_of layer_there, ap outs_of layer_there)

  layer_fits : LayerFits a r start size m (length w2) h2 p2 weights
  layer_fits = fits_on (fits_on fits s1.leaves) s2.leaves

  layer_leave : Leaves a r start weights size m w0 h0 p0 w2 h2 p2 (λ i. i < 9 * size)
  layer_leave = leaves_then s1.leaves s2.leaves (λ i h. (omega (arith, h), omega (arith, h))) (λ i h. (omega (arith, h), omega (arith, h)))

  residual_by : (x c : ℕ → ℕ → Float) (s : ℕ → Memory) → UnderWay a r start weights size m x c s 10 w0 h0 p0 → Holds (6 * size) r.bottleneck m (λ o t. gated a r (slot_weights a r start weights) (memories_at a r start weights x c s t) (x t) (c t) o) w0
      → UnderWay a r start weights size m x c s 12 w3 h2 p2 × Holds (13 * size) a.channels m (λ o t. signal a r (slot_weights a r start weights) (memories_at a r start weights x c s t) (x t) (c t) o) w3
  unfolding site_width part_of slots_of memories_at after layer1x1' signal
  residual_by x c s u g =
      let W = slot_weights a r start weights in
      let M : ℕ → ℕ → Memory = memories_at a r start weights x c s in
      let q1 = s1.by x c s (λ t. gated a r W (M t) (x t) (c t)) u (wide (sym layer_sides.0) g) (λ t. refl) in
      let q2 = s2.by x c s (λ t. convolved (layer1x1_of a r) (W 2) (layer1x1' a r W (M t) (x t) (c t))) q1.0 (wide layer_sides.1 q1.1) in
      let sum = add_holds (13 * size) (2 * size) a.channels m _ _ w2 w3 s3 (omega (arith, fits.channels_in, layer_fits.work_in)) q2.1 q2.0.input in (
        under_way_on layer_fits (add_kept w2 w3 layer_fits (13 * size) a.channels _ fits.channels_in s3) (λ i k. omega (arith, k)) q2.0,
        holds_as sum (λ o t ho ht. rw layer_there),
      )

  pub residual_is : Residual a r start weights size m w0 h0 p0 w3 h2 p2 (13 * size)
  residual_is = record {
    by = residual_by;
    result_in = inr refl;
    leaves = leaves_then layer_leave (add_leaves w2 w3 layer_fits (13 * size) a.channels _ fits.channels_in s3) (λ i (h : i < 9 * size). h) (λ i h. omega (arith, h));
  }
