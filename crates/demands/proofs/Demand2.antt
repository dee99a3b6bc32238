-- Demand 2: an accepted call's outputs, histories and positions are the recurrence's over its columns, one at a time; with n = 0 nothing changes.
-- Document 01, 'The recurrence', 'Refusal numbers'. Assumes nothing.
use mathlib.Core.Path.{◌≡◌, refl, sym, ◌∙◌, ap}
use mathlib.Core.List.{List, [], ◌∷◌}
use Prim.Native.Nat.{ℕ, ◌*◌}
use native.Mathlib.Nat.{mul-zero}
use native.Mathlib.Omega.{arith}
use lib.ListN.{length}
use lib.Ieee.{Float}
use borrow.Author.Tests.{eq-eqb}
use Rattle.lists.specs.Tab.{tab}
use Rattle.turns.specs.Grid.{states_after}
use Rattle.description.specs.Records.{array_of}
use Rattle.array.specs.Memories.{memories_of, histories_from, positions_from}
use Rattle.array.specs.Planar.{columns_in, block_of}
use Rattle.array.specs.Calls.{states_from, columns_from, brought, histories_played, positions_played, head_played, array_played}
use Rattle.array.proofs.Views.{histories_are, positions_are}
use Rattle.demands.specs.Calls.{count_of, refusal_for, handed, Call, Meets}
use Rattle.demands.specs.Results.{Unchanged, remembered, leaving, PlaysColumns}
use Rattle.demands.proofs.Accepted.{Lengths, accepted_lengths}
use Rattle.demands.proofs.Outputs.{handed_are}

-- a list of no numbers
empty : {A : Type 0} (l : List A) → length l ≡ 0 → l ≡ []
empty [] h = refl
empty (x ∷ l) h = absurd (omega arith)

module _ (c : Call) (meets : Meets c) (accepted : c.left.answer ≡ 0) where
  no_refusal : refusal_for c.kind c.lent ≡ 0
  no_refusal = sym meets.answer ∙ accepted

  pub plays_columns : PlaysColumns c
  unfolding remembered leaving histories_played positions_played head_played array_played states_from columns_from brought
  plays_columns =
      let ok = eq-eqb (refusal_for c.kind c.lent) 0 no_refusal in
      record {
        histories = rw ok at meets.histories;
        positions = rw ok at meets.positions;
        head_out = rw ok at meets.head_out;
        array_out = rw ok at meets.array_out;
      }

  -- the columns that the outputs hold are those past the last stage
  pub columns_are : handed c ≡ leaving c
  unfolding leaving columns_from brought
  columns_are =
      let ok = eq-eqb (refusal_for c.kind c.lent) 0 no_refusal in handed_are c (rw ok at meets.array_out) (rw ok at meets.head_out)

  module _ (none : count_of c.kind ≡ 0) where
    long : Lengths c.lent (count_of c.kind)
    long = accepted_lengths c.kind c.lent no_refusal

    nothing_remembered : remembered c ≡ memories_of c.lent.description c.lent.histories c.lent.positions
    unfolding remembered columns_in tab states_after
    nothing_remembered = rw none

    no_block : (w : ℕ) (f : ℕ → List Float) → block_of w (count_of c.kind) f ≡ []
    unfolding block_of tab
    no_block w f = rw (none, mul-zero w)

    -- n = 0
    pub none_unchanged : Unchanged c
    none_unchanged =
        let d = c.lent.description in
        record {
          histories_kept = plays_columns.histories ∙ ap (histories_from d) nothing_remembered ∙ histories_are d c.lent.histories c.lent.positions long.histories_long;
          positions_kept = plays_columns.positions ∙ ap (positions_from d) nothing_remembered ∙ positions_are d c.lent.histories c.lent.positions long.positions_long;
          head_out_kept = plays_columns.head_out ∙ no_block _ _ ∙ sym (empty c.lent.head_out (long.head_out_long ∙ ap (λ (n : ℕ). (array_of d).head_size * n) none ∙ mul-zero _));
          array_out_kept = plays_columns.array_out ∙ no_block _ _ ∙ sym (empty c.lent.array_out (long.array_out_long ∙ ap (λ (n : ℕ). (array_of d).channels * n) none ∙ mul-zero _));
        }
