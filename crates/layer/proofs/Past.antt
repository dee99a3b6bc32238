-- What a FiLM site and a convolution do to a layer under way, in terms of the trace. Assumes nothing.
use Rattle.std.specs.Prelude.{None, Some}
use mathlib.Core.Path.{◌≡◌, refl, sym, ◌∙◌, ap}
use mathlib.Core.List.{List}
use Prim.Native.Nat.{ℕ, suc, ◌+◌, ◌*◌, ◌≤◌, ◌<◌}
use native.Mathlib.Omega.{arith}
use lib.ListN.{length, get_or}
use lib.Ieee.{Float, nan}
use Rattle.lists.specs.Region.{Apart, Holds, Free}
use Rattle.lists.proofs.Regions.{free_as, free_self, holds_as}
use Rattle.ring.specs.Memory.{Memory}
use Rattle.shape.specs.declared.Shape.{Shape}
use Rattle.shape.specs.Counts.{ring_length, history_count}
use Rattle.description.specs.Parts.{part_of, site_width}
use Rattle.description.specs.Sizes.{histories_of, positions_of}
use Rattle.description.specs.ZeroRules.{bit}
use Rattle.description.specs.declared.records.ArrayRecord.{ArrayRecord}
use Rattle.description.specs.declared.records.LayerRecord.{LayerRecord}
use Rattle.description.specs.Part.{Part}
use Rattle.description.specs.declared.places.Place.{Place}
use Rattle.slot.specs.View.{memory_in, weights_in}
use Rattle.slot.specs.Steps.{pushed, convolved, sited}
use Rattle.slot.specs.Play.{Played}
use Rattle.slot.specs.Site.{result_at, Sited}
use Rattle.slot.proofs.Sites.{site_absent}
use Rattle.slot.proofs.Trace.{play_trace, site_trace, place_stays, site_place_stays, memory_kept}
use Rattle.layer.specs.Column.{applied_site, site, site'}
use Rattle.layer.specs.Layered.{slot_place, slot_memory, slot_weights, memories_at, LayerFits}
use Rattle.layer.specs.Slots.{turn_of}
use Rattle.layer.specs.Pieces.{ins_of, outs_of, UnderWay, Leaves, SitePast, ConvPast}
use Rattle.layer.proofs.Steps.{histories_in, leaves, advance, unplayed}
use Rattle.layer.proofs.Asks.{Applied, as_is, not_applied, applied, still, site_step, width_in, sides_in}

-- a place outside of the regions that a step writes
abbrev Outside : ℕ → ℕ → ℕ → Type 0
Outside size to n = Apart to size n 1 × Apart (9 * size) (3 * size) n 1

-- a site in place leaves the columns where they are, there or not
stays : (p : Part) (to : ℕ) → result_at p to to ≡ to
unfolding result_at
stays None to = refl
stays (Some sh) to = refl

pub in_place : {a : ArrayRecord} {r : LayerRecord} {start : Place} {weights : List Float} {size m : ℕ} {work histories work' histories' : List Float} {positions positions' : List ℕ} {i to result : ℕ}
    → SitePast a r start weights size m work histories positions work' histories' positions' i to to result
    → SitePast a r start weights size m work histories positions work' histories' positions' i to to to
in_place {a} {r} {i = i} {to = to} h = let e = h.there ∙ stays (applied_site a r i) to in rw e at h

module _ {a : ArrayRecord} {r : LayerRecord} {start : Place} {size m nwork : ℕ} {histories : List Float} {positions : List ℕ} {weights : List Float}
    (fits : LayerFits a r start size m nwork histories positions weights) where
  -- ---- site i
  module _ (i : ℕ) (hi : i < 8) {from to result : ℕ} (past : 4 * size ≤ to) {work work' histories' : List Float} {positions' : List ℕ}
      (st : Sited (applied_site a r i) (bit r.shift_bits i) (slot_place a r start (4 + i)) weights (site_width a r i) a.condition m (3 * size) from to (9 * size) (11 * size) result
      work histories positions work' histories' positions') where
    site_others : Free nan (Outside size to) work work'
    site_others = free_as st.others (λ n h.
        (omega (arith, h.0, width_in fits i hi), omega (arith, h.1, width_in fits i hi), omega (arith, h.1, fits.condition_in)))

    fewer_by : Applied a r i → (histories_of (applied_site a r i) ≤ histories_of (part_of a r (4 + i))) × (positions_of (applied_site a r i) ≤ positions_of (part_of a r (4 + i)))
    unfolding histories_of positions_of
    fewer_by (as_is e) = (rw e (omega arith), rw e (omega arith))
    fewer_by (not_applied e) = (rw e (omega arith), rw e (omega arith))

    fewer : (histories_of (applied_site a r i) ≤ histories_of (part_of a r (4 + i))) × (positions_of (applied_site a r i) ≤ positions_of (part_of a r (4 + i)))
    fewer = fewer_by (applied a r i hi)

    -- its position
    place_by : Applied a r i → (sh : Shape) → part_of a r (4 + i) ≡ Some sh → get_or positions' (slot_place a r start (4 + i)).positions 0 < ring_length sh
    unfolding histories_of positions_of
    place_by (as_is q) sh e =
        let h : histories_of (part_of a r (4 + i)) ≡ history_count sh = ap histories_of e in
        site_place_stays st sh (q ∙ e) (omega (arith, histories_in fits (4 + i) (omega arith), h)) (fits.slots (4 + i) (omega arith) sh e).place_in
    place_by (not_applied q) sh e =
        let z : positions_of (applied_site a r i) ≡ 0 = ap positions_of q in
        rw (st.positions_kept.is (slot_place a r start (4 + i)).positions (omega (arith, z))) (fits.slots (4 + i) (omega arith) sh e).place_in

    site_leaves : Leaves a r start weights size m work histories positions work' histories' positions' (Outside size to)
    site_leaves = leaves fits (4 + i) (omega arith) (applied_site a r i) fewer.0 fewer.1 st.histories_kept st.positions_kept site_others (place_by (applied a r i hi))

    module _ (x c : ℕ → ℕ → Float) (s : ℕ → Memory) (v : ℕ → ℕ → Float) (u : UnderWay a r start weights size m x c s (turn_of (4 + i)) work histories positions)
        (held : Holds from (site_width a r i) m (λ o t. v t o) work) where
      abbrev M : ℕ → ℕ → Memory
      M t k = memories_at a r start weights x c s t k

      step : (t : ℕ) → M (suc t) (4 + i) ≡ pushed (applied_site a r i) (M t (4 + i)) (c t)
      unfolding site'
      step t = site_step a r start weights x c s t i hi

      abbrev Does : Type 0
      Does =
          (slot_memory a r start histories' positions' (4 + i) ≡ M m (4 + i))
          × Holds result (site_width a r i) m (λ o t. site a r (slot_weights a r start weights) (memories_at a r start weights x c s t) (x t) (c t) i (v t) o) work'

      does : Applied a r i → Does
      unfolding slot_memory slot_weights site site' pushed sited histories_of positions_of
      does (as_is q) =
          let R : ℕ → Memory = λ t. M t (4 + i) in
          let at : Place = slot_place a r start (4 + i) in
          let first : R 0 ≡ memory_in (applied_site a r i) at histories positions =
          sym (unplayed (4 + i) (omega arith) u) ∙ ap (λ (p : Part). memory_in p at histories positions) (sym q) in
          let tr = site_trace st held u.condition R first step in (
            ap (λ (p : Part). memory_in p at histories' positions') (sym q) ∙ tr.1,
            holds_as tr.0 (λ o t ho ht.
                ap (λ (p : Part). sited (applied_site a r i) (bit r.shift_bits i) (site_width a r i) (weights_in p at weights) (R (suc t)) (v t) o) q
                ∙ ap (λ (z : Memory). sited (applied_site a r i) (bit r.shift_bits i) (site_width a r i) (weights_in (part_of a r (4 + i)) at weights) z (v t) o) (step t)),
          )
      does (not_applied q) =
          let h : histories_of (applied_site a r i) ≡ 0 = ap histories_of q in
          let p : positions_of (applied_site a r i) ≡ 0 = ap positions_of q in (
            memory_kept st.histories_kept st.positions_kept (part_of a r (4 + i)) (slot_place a r start (4 + i)) (histories_in fits (4 + i) (omega arith))
                (λ n lo hi. omega (arith, h)) (λ n lo hi. omega (arith, p))
                ∙ unplayed (4 + i) (omega arith) u
                ∙ sym (still (λ t. M t (4 + i)) (λ t. step t ∙ ap (λ (p : Part). pushed p (M t (4 + i)) (c t)) q) m),
            holds_as (st.outs v c held u.condition) (λ o t ho ht. rw q),
          )

      site_under_way : UnderWay a r start weights size m x c s (suc (turn_of (4 + i))) work' histories' positions'
      site_under_way =
          advance fits (4 + i) (omega arith) (applied_site a r i) fewer.0 fewer.1 st.histories_kept st.positions_kept site_others
          (λ n h. (omega (arith, h, past), omega (arith, h))) u (does (applied a r i hi)).0

    pub site_past : SitePast a r start weights size m work histories positions work' histories' positions' i from to result
    site_past = record {
      there = st.there;
      by = λ x c s v u held. (site_under_way x c s v u held, (does x c s v u held (applied a r i hi)).1);
      leaves = site_leaves;
    }

  -- a site that is not played: nothing is done
  pub site_left_out : (i : ℕ) → i < 8 → {from to : ℕ} → 4 * size ≤ to → {work : List Float} → applied_site a r i ≡ None
      → SitePast a r start weights size m work histories positions work histories positions i from to from
  site_left_out i h past q = site_past i h past (site_absent _ _ _ _ _ _ _ _ _ _ _ _ _ _ _ q)

  -- ---- the convolution of slot k
  module _ (k : ℕ) (hk : k < 4) {from to : ℕ} {work : List Float} where
    -- absent: nothing is done
    pub conv_absent : part_of a r k ≡ None → ConvPast a r start weights size m work histories positions work histories positions k from to
    unfolding outs_of pushed histories_of positions_of
    conv_absent q =
        record {
          by = λ x c s f u held step. (
            advance fits k (omega arith) None (nothing histories_of refl) (nothing positions_of refl) free_self free_self (free_self {P = λ n. Unit {0}}) (λ n h. tt) u
                (unplayed k (omega arith) u
                ∙ sym (still (λ t. memories_at a r start weights x c s t k) (λ t. step t ∙ ap (λ (p : Part). pushed p (memories_at a r start weights x c s t k) (f t)) q) m)),
            record { is = λ o t ho ht. absurd (omega (arith, ho, ap outs_of q)) },
          );
          leaves = leaves fits k (omega arith) None (nothing histories_of refl) (nothing positions_of refl) free_self free_self free_self
              (λ sh e. (fits.slots k (omega arith) sh e).place_in);
        }
      where
        nothing : (f : Part → ℕ) → f None ≡ 0 → f None ≤ f (part_of a r k)
        nothing f z = omega (arith, z)

    module _ (past : 4 * size ≤ to) (sh : Shape) (q : part_of a r k ≡ Some sh) {work' histories' : List Float} {positions' : List ℕ}
        (pl : Played sh (slot_place a r start k) weights m from to (11 * size) work histories positions work' histories' positions') where
      narrow : (sh.ins * m ≤ size) × (sh.outs * m ≤ size)
      unfolding ins_of outs_of
      narrow = let n = sides_in fits k hk in (rw (← ap ins_of q) n.0, rw (← ap outs_of q) n.1)

      conv_others : Free nan (Outside size to) work work'
      conv_others = free_as pl.others (λ n h. (omega (arith, h.0, narrow.1), omega (arith, h.1, narrow.0)))

      same_histories : histories_of (Some sh) ≤ histories_of (part_of a r k)
      same_histories = rw q (omega arith)

      same_positions : positions_of (Some sh) ≤ positions_of (part_of a r k)
      same_positions = rw q (omega arith)

      kept : Free nan (λ i. Apart (slot_place a r start k).histories (histories_of (Some sh)) i 1) histories histories'
      unfolding histories_of
      kept = pl.histories_kept

      kept_places : Free 0 (λ i. Apart (slot_place a r start k).positions (positions_of (Some sh)) i 1) positions positions'
      unfolding positions_of
      kept_places = pl.positions_kept

      in_buffer : (slot_place a r start k).histories + history_count sh ≤ length histories
      unfolding histories_of
      in_buffer = let h : histories_of (part_of a r k) ≡ history_count sh = ap histories_of q in omega (arith, histories_in fits k (omega arith), h)

      conv_leaves : Leaves a r start weights size m work histories positions work' histories' positions' (Outside size to)
      conv_leaves =
          leaves fits k (omega arith) (Some sh) same_histories same_positions kept kept_places conv_others
          (λ s e. let es : sh ≡ s = same (sym q ∙ e) in rw (← es) (place_stays pl in_buffer (fits.slots k (omega arith) sh q).place_in))
        where
          same : {s t : Shape} → Some s ≡ Some t → s ≡ t
          same e = cc

      module _ (x c : ℕ → ℕ → Float) (s : ℕ → Memory) (f : ℕ → ℕ → Float) (u : UnderWay a r start weights size m x c s (turn_of k) work histories positions)
          (held : Holds from (ins_of (part_of a r k)) m (λ o t. f t o) work)
          (step : (t : ℕ) → memories_at a r start weights x c s (suc t) k ≡ pushed (part_of a r k) (memories_at a r start weights x c s t k) (f t)) where
        abbrev R : ℕ → Memory
        R t = memories_at a r start weights x c s t k

        held_there : Holds from sh.ins m (λ o t. f t o) work
        unfolding ins_of
        held_there = let e : ins_of (part_of a r k) ≡ sh.ins = ap ins_of q in record { is = λ o t ho ht. held.is o t (omega (arith, ho, e)) ht }

        first : R 0 ≡ memory_in (Some sh) (slot_place a r start k) histories positions
        unfolding slot_memory
        first = sym (unplayed k (omega arith) u) ∙ ap (λ (p : Part). memory_in p (slot_place a r start k) histories positions) q

        trace : Holds to sh.outs m (λ o t. convolved (Some sh) (weights_in (Some sh) (slot_place a r start k) weights) (R (suc t)) o) work'
            × (memory_in (Some sh) (slot_place a r start k) histories' positions' ≡ R m)
        trace = play_trace pl held_there R first (λ t. step t ∙ ap (λ (p : Part). pushed p (R t) (f t)) q)

        conv_memory : slot_memory a r start histories' positions' k ≡ R m
        unfolding slot_memory
        conv_memory = ap (λ (p : Part). memory_in p (slot_place a r start k) histories' positions') q ∙ trace.1

        conv_holds : Holds to (outs_of (part_of a r k)) m (λ o t. convolved (part_of a r k) (slot_weights a r start weights k) (R (suc t)) o) work'
        unfolding slot_weights outs_of
        conv_holds =
            let e : outs_of (part_of a r k) ≡ sh.outs = ap outs_of q in
            record {
              is = λ o t ho ht.
                  trace.0.is o t (omega (arith, ho, e)) ht
                  ∙ ap (λ (p : Part). convolved p (weights_in p (slot_place a r start k) weights) (R (suc t)) o) (sym q);
            }

        conv_under_way : UnderWay a r start weights size m x c s (suc (turn_of k)) work' histories' positions'
        conv_under_way =
            advance fits k (omega arith) (Some sh) same_histories same_positions kept kept_places conv_others (λ n h. (omega (arith, h, past), omega (arith, h))) u conv_memory

      pub conv-past : ConvPast a r start weights size m work histories positions work' histories' positions' k from to
      conv-past = record {
        by = λ x c s f u held step. (conv_under_way x c s f u held step, conv_holds x c s f u held step);
        leaves = conv_leaves;
      }
