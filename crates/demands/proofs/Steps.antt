-- One call after others: from histories and positions that are what the stages remember, it comes to what the recurrence comes to over the columns that
-- it brought. Assumes nothing.
use mathlib.Core.Path.{◌≡◌, refl, sym, ◌∙◌, ap, subst}
use mathlib.Core.Bool.{Bool, true, false, cond}
use mathlib.Core.List.{List, [], ◌∷◌, ◌++◌}
use Prim.Native.Nat.{ℕ, ◌<◌}
use lib.Dec.{eqb}
use lib.Ieee.{Float}
use borrow.Author.Tests.{eqb-true}
use Rattle.ring.specs.Memory.{Memory}
use Rattle.turns.specs.Grid.{states_after, columns_after}
use Rattle.turns.proofs.Numbered.{states_join, columns_join}
use Rattle.array.specs.Stages.{Column, stage_count, next, out}
use Rattle.array.specs.Memories.{memories_of, histories_from, positions_from}
use Rattle.array.specs.Calls.{states_from, columns_from, brought, histories_played, positions_played}
use Rattle.array.proofs.Views.{histories_ext, positions_ext}
use Rattle.demands.specs.Calls.{Call, Meets, count_of, refusal_for, handed, if_accepted, played, given, Follows, Sequence, PlaysAs}
use Rattle.demands.proofs.Below.{states_same, columns_same}
use Rattle.demands.proofs.Sized.{Sized, again}
use Rattle.demands.proofs.Kept.{after_sized}
use Rattle.demands.proofs.Outputs.{handed_are}

-- the columns that a call brought, if it was accepted
abbrev played_by : Call → List Column
played_by c = if_accepted c (brought c.lent (count_of c.kind))

-- what one call does to what the stages remembered
record Stepped (d : List ℕ) (w : List Float) (st : ℕ → List Memory) (c : Call) : Type 0 where
  histories : c.left.histories ≡ histories_from d (states_after (next d w) (out d w) st (played_by c))
  positions : c.left.positions ≡ positions_from d (states_after (next d w) (out d w) st (played_by c))
  columns : if_accepted c (handed c) ≡ columns_after (next d w) (out d w) (stage_count d) st (played_by c)

module _ (c : Call) (meets : Meets c) where
  chosen : (b : Bool) → eqb (refusal_for c.kind c.lent) 0 ≡ b → (columns : List Column) → if_accepted c columns ≡ cond b columns []
  chosen b e columns = ap (λ (n : ℕ). cond (eqb n 0) columns []) meets.answer ∙ ap (λ (b : Bool). cond b columns []) e

  module _ (st : ℕ → List Memory) (sized : Sized c.lent.description st)
      (histories-held : c.lent.histories ≡ histories_from c.lent.description st) (positions-held : c.lent.positions ≡ positions_from c.lent.description st) where
    abbrev d : List ℕ
    d = c.lent.description

    abbrev w : List Float
    w = c.lent.weights

    -- what the buffers hold is what the stages remember
    held : (k : ℕ) → k < stage_count d → memories_of d c.lent.histories c.lent.positions k ≡ st k
    held k l =
        ap (λ (h : List Float). memories_of d h c.lent.positions k) histories-held
        ∙ ap (λ (p : List ℕ). memories_of d (histories_from d st) p k) positions-held
        ∙ again d st sized k l

    accepted : eqb (refusal_for c.kind c.lent) 0 ≡ true → Stepped d w st c
    unfolding histories_played positions_played states_from columns_from
    accepted ok =
        let vs = brought c.lent (count_of c.kind) in
        let first = memories_of d c.lent.histories c.lent.positions in
        let same = states_same (next d w) (out d w) (stage_count d) vs first st held in
        let e : played_by c ≡ vs = chosen true ok vs in
        record {
          histories =
              rw ok at meets.histories
              ∙ histories_ext d (states_after (next d w) (out d w) first vs) (states_after (next d w) (out d w) st vs) same
              ∙ ap (λ (vs : List Column). histories_from d (states_after (next d w) (out d w) st vs)) (sym e);
          positions =
              rw ok at meets.positions
              ∙ positions_ext d (states_after (next d w) (out d w) first vs) (states_after (next d w) (out d w) st vs) same
              ∙ ap (λ (vs : List Column). positions_from d (states_after (next d w) (out d w) st vs)) (sym e);
          columns =
              chosen true ok (handed c)
              ∙ handed_are c (rw ok at meets.array_out) (rw ok at meets.head_out)
              ∙ columns_same (next d w) (out d w) (stage_count d) vs first st held
              ∙ ap (λ (vs : List Column). columns_after (next d w) (out d w) (stage_count d) st vs) (sym e);
        }

module _ (d : List ℕ) (w : List Float) (histories : List Float) (positions : List ℕ) (c : Call) (f : Follows d w histories positions c) (st : ℕ → List Memory) where
  -- what is known before the call
  abbrev Held : List ℕ → Type 0
  Held d = Sized d st × (histories ≡ histories_from d st) × (positions ≡ positions_from d st)

  taken : eqb (refusal_for c.kind c.lent) 0 ≡ true → Held d → Stepped d w st c
  taken ok =
      let zero_is : c.left.answer ≡ 0 = f.meets.answer ∙ eqb-true (refusal_for c.kind c.lent) 0 ok in
      let own : Held c.lent.description → Stepped c.lent.description c.lent.weights st c =
      λ h. accepted c f.meets st h.0 (f.histories_are ∙ h.1) (f.positions_are ∙ h.2) ok in
      subst (λ (d : List ℕ). Held d → Stepped d w st c) (f.description_is zero_is)
      (subst (λ (w : List Float). Held c.lent.description → Stepped c.lent.description w st c) (f.weights_are zero_is) own)

  -- a refused call, whatever its description
  refused : eqb (refusal_for c.kind c.lent) 0 ≡ false → Held d → Stepped d w st c
  unfolding states_after columns_after
  refused not-ok h =
      let e : played_by c ≡ [] = chosen c f.meets false not-ok (brought c.lent (count_of c.kind)) in
      record {
        histories =
            rw not-ok at f.meets.histories
            ∙ f.histories_are
            ∙ h.1
            ∙ ap (λ (vs : List Column). histories_from d (states_after (next d w) (out d w) st vs)) (sym e);
        positions =
            rw not-ok at f.meets.positions
            ∙ f.positions_are
            ∙ h.2
            ∙ ap (λ (vs : List Column). positions_from d (states_after (next d w) (out d w) st vs)) (sym e);
        columns =
            chosen c f.meets false not-ok (handed c)
            ∙ ap (λ (vs : List Column). columns_after (next d w) (out d w) (stage_count d) st vs) (sym e);
      }

  step : Held d → Stepped d w st c
  step h = by (eqb (refusal_for c.kind c.lent) 0) refl
    where
      by : (b : Bool) → eqb (refusal_for c.kind c.lent) 0 ≡ b → Stepped d w st c
      by true e = taken e h
      by false e = refused e h

module _ (d : List ℕ) (w : List Float) where
  -- calls one after the other, from any state of the right sizes
  pub plays_from : (calls : List Call) (st : ℕ → List Memory) (histories histories' : List Float) (positions positions' : List ℕ) → Sized d st
      → histories ≡ histories_from d st → positions ≡ positions_from d st → Sequence d w histories positions calls histories' positions'
      → PlaysAs d w st calls histories' positions'
  unfolding Sequence played given states_after columns_after
  plays_from [] st histories histories' positions positions' sized h p s =
      record { histories = s.0 ∙ h; positions = s.1 ∙ p; columns = refl }
  plays_from (c ∷ cs) st histories histories' positions positions' sized h p s =
      let now = step d w histories positions c s.0 st (sized, h, p) in
      let later = plays_from cs (states_after (next d w) (out d w) st (played_by c)) c.left.histories histories' c.left.positions positions'
      (after_sized d w (played_by c) st sized) now.histories now.positions s.1 in
      let join = sym (states_join (next d w) (out d w) st (played_by c) (played cs)) in
      record {
        histories = later.histories ∙ ap (histories_from d) join;
        positions = later.positions ∙ ap (positions_from d) join;
        columns =
            ap (λ (vs : List Column). vs ++ given cs) now.columns
            ∙ ap (λ (vs : List Column). columns_after (next d w) (out d w) (stage_count d) st (played_by c) ++ vs) later.columns
            ∙ sym (columns_join (next d w) (out d w) (stage_count d) st (played_by c) (played cs));
      }
