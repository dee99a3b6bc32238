-- Demand 3: however columns are cut into calls, with refused calls among them, the outputs, histories and positions are those of the recurrence over all
-- the columns joined, one at a time. Document 01, 'What the contracts have to say'. Assumes nothing.
use mathlib.Core.Path.{◌≡◌, refl, sym, ◌∙◌, ap}
use mathlib.Core.Bool.{Bool, cond}
use mathlib.Core.List.{List, [], ◌∷◌, ◌++◌}
use Prim.Native.Nat.{ℕ}
use lib.ListN.{length}
use lib.Ieee.{Float}
use borrow.Author.Tests.{ne_eqb}
use Rattle.description.specs.Parts.{parts_of}
use Rattle.description.specs.Sizes.{histories_of, positions_of, total}
use Rattle.reset.specs.Resets.{Resets}
use Rattle.turns.specs.Grid.{states_after, columns_after}
use Rattle.array.specs.Stages.{Column, stage_count, next, out}
use Rattle.array.specs.Memories.{memories_of, histories_from, positions_from}
use Rattle.array.specs.Calls.{brought}
use Rattle.array.proofs.Views.{histories_are, positions_are}
use Rattle.demands.specs.Calls.{Call, Meets, count_of, refusal_for, handed, if_accepted, played, given, Follows, Sequence, PlaysAs}
use Rattle.demands.specs.Results.{SameEnd, Unchanged, NothingPlayed}
use Rattle.demands.specs.Silence.{silence}
use Rattle.demands.proofs.Sized.{memories_sized}
use Rattle.demands.proofs.Accepted.{accepted_lengths}
use Rattle.demands.proofs.Steps.{plays_from}
use Rattle.demands.proofs.Silence.{reset_histories, reset_positions, from_reset}

module _ (d : List ℕ) (w : List Float) (histories histories' : List Float) (positions positions' : List ℕ) where
  -- from any histories and positions that are as long as the description asks
  pub joined : (calls : List Call) → length histories ≡ total histories_of (parts_of d) → length positions ≡ total positions_of (parts_of d)
      → Sequence d w histories positions calls histories' positions' → PlaysAs d w (memories_of d histories positions) calls histories' positions'
  joined calls h p s =
      plays_from d w calls (memories_of d histories positions) histories histories' positions positions' (memories_sized d histories positions h)
      (sym (histories_are d histories positions h)) (sym (positions_are d histories positions p)) s

  module _ {old : List Float} {old-positions : List ℕ} {r : ℕ} (reset : Resets d old old-positions r histories positions) (ok : r ≡ 0) where
    -- from a reset
    pub joined_from_reset : (calls : List Call) → Sequence d w histories positions calls histories' positions'
        → PlaysAs d w (memories_of d histories positions) calls histories' positions'
    joined_from_reset calls s = joined calls (reset_histories reset ok) (reset_positions reset ok) s

    -- which is stages that have heard nothing
    pub joined_from_silence : (calls : List Call) → Sequence d w histories positions calls histories' positions' → PlaysAs d w (silence d) calls histories' positions'
    joined_from_silence calls s = rw (from_reset reset ok) at (joined_from_reset calls s)

-- two ways to cut the same columns into calls come to the same
pub however_cut : (d : List ℕ) (w : List Float) (histories : List Float) (positions : List ℕ) → length histories ≡ total histories_of (parts_of d)
    → length positions ≡ total positions_of (parts_of d) → (calls calls' : List Call) (histories' histories'' : List Float) (positions' positions'' : List ℕ)
    → Sequence d w histories positions calls histories' positions' → Sequence d w histories positions calls' histories'' positions''
    → played calls ≡ played calls' → SameEnd calls calls' histories' histories'' positions' positions''
however_cut d w histories positions h p calls calls' histories' histories'' positions' positions'' s t e =
    let a = joined d w histories histories' positions positions' calls h p s in
    let b = joined d w histories histories'' positions positions'' calls' h p t in
    let st = memories_of d histories positions in
    record {
      histories_same = a.histories ∙ ap (λ (vs : List Column). histories_from d (states_after (next d w) (out d w) st vs)) e ∙ sym b.histories;
      positions_same = a.positions ∙ ap (λ (vs : List Column). positions_from d (states_after (next d w) (out d w) st vs)) e ∙ sym b.positions;
      columns_same = a.columns ∙ ap (λ (vs : List Column). columns_after (next d w) (out d w) (stage_count d) st vs) e ∙ sym b.columns;
    }

-- a refused call leaves every buffer as it was, scratch too
pub nothing_changed : (c : Call) → Meets c → (c.left.answer ≡ 0 → ⊥) → Unchanged c × (c.left.scratch ≡ c.lent.scratch)
nothing_changed c m ne =
    let refused = ne_eqb (refusal_for c.kind c.lent) 0 (λ e. ne (m.answer ∙ e)) in (
      record {
        histories_kept = rw refused at m.histories;
        positions_kept = rw refused at m.positions;
        head_out_kept = rw refused at m.head_out;
        array_out_kept = rw refused at m.array_out;
      },
      rw refused at m.scratch,
    )

-- ---- histories or positions that are not as long as the description asks: no call is accepted
abbrev Unfit : List ℕ → List Float → List ℕ → Type 0
Unfit d histories positions = length histories ≡ total histories_of (parts_of d) → length positions ≡ total positions_of (parts_of d) → ⊥

module _ (d : List ℕ) (w : List Float) where
  always_refused : (histories : List Float) (positions : List ℕ) (c : Call) → Unfit d histories positions → Follows d w histories positions c → c.left.answer ≡ 0 → ⊥
  always_refused histories positions c unfit f ok =
      let long = accepted_lengths c.kind c.lent (sym f.meets.answer ∙ ok) in
      unfit
      (ap length (sym f.histories_are) ∙ long.histories_long ∙ ap (λ (d : List ℕ). total histories_of (parts_of d)) (f.description_is ok))
      (ap length (sym f.positions_are) ∙ long.positions_long ∙ ap (λ (d : List ℕ). total positions_of (parts_of d)) (f.description_is ok))

  none_by : (c : Call) → (c.left.answer ≡ 0 → ⊥) → (columns : List Column) → if_accepted c columns ≡ []
  none_by c ne columns = ap (λ (b : Bool). cond b columns []) (ne_eqb c.left.answer 0 ne)

  pub unfit_plays_nothing : (calls : List Call) (histories histories' : List Float) (positions positions' : List ℕ) → Unfit d histories positions
      → Sequence d w histories positions calls histories' positions' → NothingPlayed calls histories histories' positions positions'
  unfolding Sequence played given
  unfit_plays_nothing [] histories histories' positions positions' unfit s =
      record { histories_kept = s.0; positions_kept = s.1; none_played = refl; none_given = refl }
  unfit_plays_nothing (c ∷ cs) histories histories' positions positions' unfit s =
      let f = s.0 in
      let ne = always_refused histories positions c unfit f in
      let same = (nothing_changed c f.meets ne).0 in
      let h : c.left.histories ≡ histories = same.histories_kept ∙ f.histories_are in
      let p : c.left.positions ≡ positions = same.positions_kept ∙ f.positions_are in
      let later = unfit_plays_nothing cs c.left.histories histories' c.left.positions positions'
      (λ x y. unfit (ap length (sym h) ∙ x) (ap length (sym p) ∙ y)) s.1 in
      record {
        histories_kept = later.histories_kept ∙ h;
        positions_kept = later.positions_kept ∙ p;
        none_played = ap (λ (l : List Column). l ++ played cs) (none_by c ne (brought c.lent (count_of c.kind))) ∙ later.none_played;
        none_given = ap (λ (l : List Column). l ++ given cs) (none_by c ne (handed c)) ∙ later.none_given;
      }
