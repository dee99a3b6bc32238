-- What a FiLM site and a convolution ask of a layer's buffers follows from what the layer asks. Assumes nothing.
use Rattle.std.specs.Prelude.{None, Some}
use mathlib.Core.Path.{◌≡◌, refl, sym, ◌∙◌, ap}
use mathlib.Core.Bool.{Bool, true, false, cond, not, ◌&&◌, ◌||◌, and-true, and-false, true≢false, false≢true}
use borrow.Author.Tests.{eqb-true, eq-eqb}
use mathlib.Core.List.{List}
use Prim.Native.Nat.{ℕ, zero, suc, ◌+◌, ◌-◌, ◌*◌, ◌≤◌, ◌<◌}
use native.Mathlib.Nat.{add-zero}
use native.Mathlib.Omega.{arith}
use lib.Dec.{eqb}
use lib.ListN.{length, get_or}
use lib.Ieee.{Float}
use Rattle.lists.specs.Region.{Apart}
use Rattle.ring.specs.Memory.{Memory}
use Rattle.shape.specs.declared.Shape.{Shape}
use Rattle.shape.specs.Counts.{history_count, weight_count}
use Rattle.description.specs.Parts.{conv_of, mixin_of, layer1x1_of, head1x1_of, slots_of, part_of, site_of, site_width, site_groups, unless0}
use Rattle.description.specs.Sizes.{weights_of, histories_of, positions_of, past_of}
use Rattle.description.specs.Tally.{past_all}
use Rattle.description.specs.ZeroRules.{bit}
use Rattle.description.specs.declared.records.ArrayRecord.{ArrayRecord}
use Rattle.description.specs.declared.records.LayerRecord.{LayerRecord}
use Rattle.description.specs.Part.{Part}
use Rattle.description.specs.declared.places.Place.{Place}
use Rattle.description.proofs.Slots.{slot_site, not_absent}
use Rattle.slot.specs.Play.{PlayFits}
use Rattle.slot.specs.Site.{SiteThere, SiteFits}
use Rattle.layer.specs.Column.{is_blended, is_there, applies, applied_site, site', after}
use Rattle.layer.specs.Layered.{slot_place, slot_weights, memories_at, LayerFits}
use Rattle.layer.specs.Pieces.{Behind, Room, ins_of, outs_of}
use Rattle.layer.proofs.Places.{slot_within, slot_next}
use Rattle.layer.proofs.Steps.{histories_in, positions_in}

-- ---- sites as they are applied
module _ (a : ArrayRecord) (r : LayerRecord) where
  pub site_part : (i : ℕ) → i < 8 → site_of a r i ≡ part_of a r (4 + i)
  site_part i h = let e : 4 + i - 4 ≡ i = omega arith in sym (ap (site_of a r) e) ∙ slot_site a r (4 + i) (omega arith) (omega arith)

  -- a site is applied as it is, or not at all
  pub data Applied (i : ℕ) : Type 0 where
    as_is : applied_site a r i ≡ part_of a r (4 + i) → Applied i
    not_applied : applied_site a r i ≡ None → Applied i

  applied_by : (i : ℕ) → i < 8 → (b : Bool) → applies a r i ≡ b → Applied i
  unfolding applied_site
  applied_by i h true e = as_is (rw e (site_part i h))
  applied_by i h false e = not_applied (rw e)

  pub applied : (i : ℕ) → i < 8 → Applied i
  applied i h = applied_by i h (applies a r i) refl

-- site 6 in a mode other than Blended, and any other case
both : (t b : Bool) → (t && not b) ≡ true → (t ≡ true) × (b ≡ false)
both true true e = absurd (false≢true e)
both true false e = (refl, refl)
both false b e = absurd (false≢true e)

not_both : (t b : Bool) → (t && not b) ≡ false → t ≡ true → b ≡ true
not_both true true e q = refl
not_both true false e q = absurd (true≢false e)
not_both false b e q = absurd (false≢true q)

either : (t b : Bool) → (t && not b) ≡ false → (not t || b) ≡ true
either true true e = refl
either true false e = absurd (true≢false e)
either false b e = refl

module _ (a : ArrayRecord) (r : LayerRecord) (i : ℕ) (b : Bool) (mode : b ≡ is_blended r.mode) where
  pub left_out : (eqb i 6 && not b) ≡ true → None ≡ applied_site a r i
  unfolding applied_site applies
  left_out e =
      let q = both (eqb i 6) b e in
      let six : i ≡ 6 = eqb-true i 6 q.0 in
      let plain : is_blended r.mode ≡ false = sym mode ∙ q.1 in
      rw (six, plain)

  played_by_is : (i : ℕ) → Behind a r i → (i ≡ 6 → is_blended r.mode ≡ true) → applies a r i ≡ true
  unfolding applies
  played_by_is zero h e = refl
  played_by_is (suc zero) h e = refl
  played_by_is (suc (suc zero)) h e = refl
  played_by_is (suc (suc (suc zero))) h e = refl
  played_by_is (suc (suc (suc (suc zero)))) h e = refl
  played_by_is (suc (suc (suc (suc (suc zero))))) h e = refl
  played_by_is (suc (suc (suc (suc (suc (suc zero)))))) h e = rw (e refl, h.layer1x1_there refl)
  played_by_is (suc (suc (suc (suc (suc (suc (suc zero))))))) h e = rw (h.head1x1_there refl)
  played_by_is (suc (suc (suc (suc (suc (suc (suc (suc i)))))))) h e = absurd (omega (arith, h.site_in))

  pub played : Behind a r i → (eqb i 6 && not b) ≡ false → part_of a r (4 + i) ≡ applied_site a r i
  unfolding applied_site
  played h e = rw (played_by_is i h (λ six. sym mode ∙ not_both (eqb i 6) b e (eq-eqb i 6 six))) (sym (site_part a r i h.site_in))

  -- a part that a 0 makes absent is there where the number is not 0
  there_unless : (g : ℕ) (s : Shape) → not (eqb g 0) ≡ is_there (unless0 g s)
  unfolding unless0
  there_unless g s = by (eqb g 0)
    where
      by : (e : Bool) → not e ≡ is_there (cond e None (Some s))
      by true = refl
      by false = refl

  -- whether site i is played, by what the code asks
  pub plays_is : Behind a r i → (g : ℕ) → g ≡ site_groups r.sites i → (not (eqb g 0) && (not (eqb i 6) || b)) ≡ is_there (applied_site a r i)
  unfolding site_of
  plays_is h g e = by (eqb i 6 && not b) refl
    where
      by : (x : Bool) → (eqb i 6 && not b) ≡ x → (not (eqb g 0) && (not (eqb i 6) || b)) ≡ is_there (applied_site a r i)
      by true q =
          let z = both (eqb i 6) b q in
          rw (z.0, z.1, and-false (not (eqb g 0))) (ap is_there (left_out q))
      by false q =
          rw (either (eqb i 6) b q, and-true (not (eqb g 0)), e)
          (there_unless (site_groups r.sites i) _ ∙ ap is_there (site_part a r i h.site_in ∙ played h q))

-- a site that is there as it is applied is there as it is
pub applied_whole : (a : ArrayRecord) (r : LayerRecord) (i : ℕ) → i < 8 → true ≡ is_there (applied_site a r i) → part_of a r (4 + i) ≡ applied_site a r i
applied_whole a r i h e = by (applied a r i h)
  where
    by : Applied a r i → part_of a r (4 + i) ≡ applied_site a r i
    by (as_is q) = sym q
    by (not_applied q) = absurd (true≢false (e ∙ ap is_there q))

-- a part that is not there
pub not_played : (p : Part) → false ≡ is_there p → p ≡ None
not_played None e = refl
not_played (Some sh) e = absurd (false≢true e)

-- a part that is there, of one that a 0 makes absent
shape_unless : (n : ℕ) (s sh : Shape) → unless0 n s ≡ Some sh → s ≡ sh
unfolding unless0
shape_unless n s sh e = by (eqb n 0) e
  where
    by : (b : Bool) → cond b None (Some s) ≡ Some sh → s ≡ sh
    by true e = not_absent e
    by false e = cc

module _ (a : ArrayRecord) (r : LayerRecord) (i : ℕ) (sh : Shape) (e : site_of a r i ≡ Some sh) where
  site_ins : sh.ins ≡ a.condition
  unfolding site_of
  site_ins = sym (ap (λ (s : Shape). s.ins) (shape_unless (site_groups r.sites i) _ sh e))

  site_outs : sh.outs ≡ site_width a r i * cond (bit r.shift_bits i) 2 1
  unfolding site_of
  site_outs = sym (ap (λ (s : Shape). s.outs) (shape_unless (site_groups r.sites i) _ sh e))

-- a site without groups is absent, and takes no place
pub no_site : (a : ArrayRecord) (r : LayerRecord) (i : ℕ) → i < 8 → site_groups r.sites i ≡ 0 → part_of a r (4 + i) ≡ None
unfolding site_of unless0
no_site a r i h e = sym (site_part a r i h) ∙ rw (eq-eqb (site_groups r.sites i) 0 e)

nowhere : (p : Place) → p ≡ past_of p None
unfolding past_of weights_of histories_of positions_of
nowhere p = rw (add-zero p.weights, add-zero p.histories, add-zero p.positions)

pub past-none : (a : ArrayRecord) (r : LayerRecord) (start : Place) (i : ℕ) → i < 8 → part_of a r (4 + i) ≡ None → slot_place a r start (4 + i) ≡ slot_place a r start (suc (4 + i))
past-none a r start i h e =
    nowhere (slot_place a r start (4 + i)) ∙ ap (past_of (slot_place a r start (4 + i))) (sym e) ∙ slot_next a r start (4 + i) (omega arith)

-- scales and shifts fill two regions
two_regions : (w m size : ℕ) (b : Bool) → w * m ≤ size → w * cond b 2 1 * m ≤ 2 * size
two_regions w m size true h = omega arith
two_regions w m size false h = omega arith

part_sides : (n m size : ℕ) (s : Shape) → s.ins * m ≤ size → s.outs * m ≤ size → (ins_of (unless0 n s) * m ≤ size) × (outs_of (unless0 n s) * m ≤ size)
unfolding unless0 ins_of outs_of
part_sides n m size s h k = by (eqb n 0)
  where
    by : (b : Bool) → (ins_of (cond b None (Some s)) * m ≤ size) × (outs_of (cond b None (Some s)) * m ≤ size)
    by true = (omega arith, omega arith)
    by false = (h, k)

pub still : {A : Type 0} (R : ℕ → A) → ((t : ℕ) → R (suc t) ≡ R t) → (t : ℕ) → R t ≡ R 0
still R step zero = refl
still R step (suc t) = step t ∙ still R step t

-- what site i remembers after a column
pub site_step : (a : ArrayRecord) (r : LayerRecord) (start : Place) (weights : List Float) (x c : ℕ → ℕ → Float) (s : ℕ → Memory) (t i : ℕ) → i < 8
    → memories_at a r start weights x c s (suc t) (4 + i) ≡ site' a r (slot_weights a r start weights) (memories_at a r start weights x c s t) (x t) (c t) i
unfolding memories_at after
site_step a r start weights x c s t zero h = refl
site_step a r start weights x c s t (suc zero) h = refl
site_step a r start weights x c s t (suc (suc zero)) h = refl
site_step a r start weights x c s t (suc (suc (suc zero))) h = refl
site_step a r start weights x c s t (suc (suc (suc (suc zero)))) h = refl
site_step a r start weights x c s t (suc (suc (suc (suc (suc zero))))) h = refl
site_step a r start weights x c s t (suc (suc (suc (suc (suc (suc zero)))))) h = refl
site_step a r start weights x c s t (suc (suc (suc (suc (suc (suc (suc zero))))))) h = refl
site_step a r start weights x c s t (suc (suc (suc (suc (suc (suc (suc (suc i)))))))) h = absurd (omega arith)

module _ {a : ArrayRecord} {r : LayerRecord} {start : Place} {size m nwork : ℕ} {histories : List Float} {positions : List ℕ} {weights : List Float}
    (fits : LayerFits a r start size m nwork histories positions weights) where
  -- every width fits a region
  last_width : (b : Bool) → cond b a.channels r.head1x1_width * m ≤ size
  last_width true = fits.channels_in
  last_width false = fits.head1x1_in

  pub width_in : (i : ℕ) → i < 8 → site_width a r i * m ≤ size
  unfolding site_width
  width_in zero h = fits.channels_in
  width_in (suc zero) h = fits.mid_in
  width_in (suc (suc zero)) h = fits.condition_in
  width_in (suc (suc (suc zero))) h = fits.mid_in
  width_in (suc (suc (suc (suc zero)))) h = fits.mid_in
  width_in (suc (suc (suc (suc (suc zero))))) h = fits.bottleneck_in
  width_in (suc (suc (suc (suc (suc (suc zero)))))) h = fits.channels_in
  width_in (suc (suc (suc (suc (suc (suc (suc zero))))))) h = last_width (eqb r.head1x1_width 0)
  width_in (suc (suc (suc (suc (suc (suc (suc (suc i)))))))) h = absurd (omega arith)

  pub sides_in : (k : ℕ) → k < 4 → (ins_of (part_of a r k) * m ≤ size) × (outs_of (part_of a r k) * m ≤ size)
  unfolding part_of slots_of conv_of mixin_of layer1x1_of head1x1_of ins_of outs_of
  sides_in zero h = (fits.channels_in, fits.mid_in)
  sides_in (suc zero) h = (fits.condition_in, fits.mid_in)
  sides_in (suc (suc zero)) h = part_sides _ m size _ fits.bottleneck_in fits.channels_in
  sides_in (suc (suc (suc zero))) h = part_sides _ m size _ fits.bottleneck_in fits.head1x1_in
  sides_in (suc (suc (suc (suc k)))) h = absurd (omega arith)

  weights_inside : (j : ℕ) → j < 12 → (slot_place a r start j).weights + weights_of (part_of a r j) ≤ length weights
  unfolding slot_place past_all
  weights_inside j h = omega (arith, slot_within a r weights_of j h, fits.weights_inside)

  -- the convolution of slot j, from region x to region out
  module _ (j : ℕ) (hj : j < 12) (sh : Shape) (e : part_of a r j ≡ Some sh) (x out : ℕ) where
    pub play_fits : x + sh.ins * m ≤ nwork → out + sh.outs * m ≤ nwork → sh.ins * m ≤ size → Apart out (sh.outs * m) x (sh.ins * m)
        → Apart out (sh.outs * m) (11 * size) (sh.ins * m) → Apart (11 * size) (sh.ins * m) x (sh.ins * m)
        → PlayFits sh (slot_place a r start j) (get_or positions (slot_place a r start j).positions 0) m nwork (length histories) (length positions) (length weights) x out (11 * size)
    unfolding histories_of positions_of weights_of
    play_fits x_in out_in narrow out_x out_rows rows_x =
        let f = fits.slots j hj sh e in
        let h : histories_of (part_of a r j) ≡ history_count sh = ap histories_of e in
        let p : positions_of (part_of a r j) ≡ 1 = ap positions_of e in
        let w : weights_of (part_of a r j) ≡ weight_count sh = ap weights_of e in
        record {
          range = f.range;
          divided = f.divided;
          place_in = f.place_in;
          histories_in = omega (arith, histories_in fits j hj, h);
          weights_inside = omega (arith, weights_inside j hj, w);
          positions_in = omega (arith, positions_in fits j hj, p);
          x_in = x_in;
          out_in = out_in;
          rows_in = omega (arith, narrow, fits.work_in);
          out_x = out_x;
          out_rows = out_rows;
          rows_x = rows_x;
        }

  -- what slot k asks, from a region to a later one
  pub conv_fits : (k : ℕ) → k < 4 → (sh : Shape) → part_of a r k ≡ Some sh → (from to : ℕ) → Room size to → from + size ≤ to → from + size ≤ 9 * size
      → PlayFits sh (slot_place a r start k) (get_or positions (slot_place a r start k).positions 0) m nwork (length histories) (length positions) (length weights) from to (11 * size)
  unfolding ins_of outs_of
  conv_fits k hk sh e from to room le le9 =
      let n = sides_in k hk in
      let ins : sh.ins * m ≤ size = rw (← ap ins_of e) n.0 in
      let outs : sh.outs * m ≤ size = rw (← ap outs_of e) n.1 in
      play_fits k (omega arith) sh e from to (omega (arith, ins, fits.work_in)) (omega (arith, outs, room.end, fits.work_in)) ins
      (omega (arith, ins, outs, le)) (omega (arith, ins, outs, room.beside)) (omega (arith, ins, le9))

  -- what a site asks, over a region beside those that it uses up
  module _ (i : ℕ) (hi : i < 8) (to : ℕ) (inside : to + size ≤ 16 * size) (beside : Apart to size (9 * size) (3 * size)) where
    site_there : (sh : Shape) → part_of a r (4 + i) ≡ Some sh
        → SiteThere sh (bit r.shift_bits i) (slot_place a r start (4 + i)) (get_or positions (slot_place a r start (4 + i)).positions 0) (site_width a r i) a.condition m nwork
        (length histories) (length positions) (length weights) (3 * size) to (9 * size) (11 * size)
    site_there sh e =
        let es : site_of a r i ≡ Some sh = site_part a r i hi ∙ e in
        let ins : sh.ins * m ≡ a.condition * m = ap (λ (n : ℕ). n * m) (site_ins a r i sh es) in
        let outs : sh.outs * m ≡ site_width a r i * cond (bit r.shift_bits i) 2 1 * m = ap (λ (n : ℕ). n * m) (site_outs a r i sh es) in
        let two = two_regions (site_width a r i) m size (bit r.shift_bits i) (width_in i hi) in
        record {
          play = play_fits (4 + i) (omega arith) sh e (3 * size) (9 * size)
              (omega (arith, ins, fits.condition_in, fits.work_in)) (omega (arith, outs, two, fits.work_in)) (omega (arith, ins, fits.condition_in))
              (omega (arith, ins, outs, two, fits.condition_in)) (omega (arith, ins, outs, two, fits.condition_in)) (omega (arith, ins, fits.condition_in));
          ins_are = site_ins a r i sh es;
          outs_are = site_outs a r i sh es;
          to_s = omega (arith, outs, two, width_in i hi);
          to_rows = omega (arith, ins, fits.condition_in, width_in i hi);
        }

    pub site_fits : SiteFits (applied_site a r i) (bit r.shift_bits i) (slot_place a r start (4 + i)) (get_or positions (slot_place a r start (4 + i)).positions 0)
        (site_width a r i) a.condition m nwork (length histories) (length positions) (length weights) (3 * size) to (9 * size) (11 * size)
    site_fits = record {
      to_in = omega (arith, width_in i hi, fits.work_in);
      there = λ sh e. by sh e (applied a r i hi);
      small = fits.small;
    }
      where
        by : (sh : Shape) → applied_site a r i ≡ Some sh → Applied a r i
            → SiteThere sh (bit r.shift_bits i) (slot_place a r start (4 + i)) (get_or positions (slot_place a r start (4 + i)).positions 0) (site_width a r i) a.condition m nwork
            (length histories) (length positions) (length weights) (3 * size) to (9 * size) (11 * size)
        by sh e (as_is q) = site_there sh (sym q ∙ e)
        by sh e (not_applied q) = not_absent (sym q ∙ e)
