-- Any two results that meet a call's contract agree, and there is one; they do not hang on what scratch held, nor accepted ones on the plan. Document
-- 01, 'What the contracts have to say' and 'Refusal numbers'. Assumes nothing.
use mathlib.Core.Path.{◌≡◌, refl, sym, ◌∙◌, ap}
use mathlib.Core.Bool.{Bool, true, false, cond}
use mathlib.Core.List.{List}
use Prim.Native.Nat.{ℕ}
use lib.Dec.{eqb}
use lib.ListN.{length}
use lib.Ieee.{Float}
use borrow.Author.Tests.{eq-eqb, ne_eqb}
use Rattle.array.specs.Lent.{Lent, Left, with_scratch}
use Rattle.array.specs.Refusals.{refused7, refused8, refused9, column_refusal, block_refusal, planned_refusal}
use Rattle.array.specs.Calls.{states_from, columns_from, brought, histories_played, positions_played, head_played, array_played}
use Rattle.demands.specs.Calls.{Kind, column, block, planned, count_of, refusal_for, Meets}
use Rattle.demands.specs.Results.{Agree}

module _ (kind : Kind) (lent : Lent) (left left' : Left)
    (m : Meets (record { kind = kind; lent = lent; left = left })) (m' : Meets (record { kind = kind; lent = lent; left = left' })) where
  pub agree : Agree left left'
  agree = record {
    answer_same = m.answer ∙ sym m'.answer;
    histories_same = m.histories ∙ sym m'.histories;
    positions_same = m.positions ∙ sym m'.positions;
    head_out_same = m.head_out ∙ sym m'.head_out;
    array_out_same = m.array_out ∙ sym m'.array_out;
  }

  -- where they are refused, in scratch too
  pub scratch_agrees : (left.answer ≡ 0 → ⊥) → left.scratch ≡ left'.scratch
  scratch_agrees ne =
      let refused = ne_eqb (refusal_for kind lent) 0 (λ e. ne (m.answer ∙ e)) in rw refused at m.scratch ∙ sym (rw refused at m'.scratch)

-- there is a result that meets it
module _ (kind : Kind) (lent : Lent) where
  abbrev accepted : Bool
  accepted = eqb (refusal_for kind lent) 0

  abbrev result : Left
  result = record {
    answer = refusal_for kind lent;
    histories = cond accepted (histories_played lent (count_of kind)) lent.histories;
    positions = cond accepted (positions_played lent (count_of kind)) lent.positions;
    head_out = cond accepted (head_played lent (count_of kind)) lent.head_out;
    array_out = cond accepted (array_played lent (count_of kind)) lent.array_out;
    scratch = lent.scratch;
  }

  pub some_result : Meets (record { kind = kind; lent = lent; left = result })
  some_result = record { answer = refl; histories = refl; positions = refl; head_out = refl; array_out = refl; scratch = either accepted }
    where
      either : (b : Bool) → lent.scratch ≡ cond b lent.scratch lent.scratch
      either true = refl
      either false = refl

-- ---- accepted calls that bring the same columns come to the same, whatever their kinds and plans
module _ (kind kind' : Kind) (lent : Lent) (left left' : Left) (same : count_of kind ≡ count_of kind')
    (m : Meets (record { kind = kind; lent = lent; left = left })) (m' : Meets (record { kind = kind'; lent = lent; left = left' })) where
  pub kinds_agree : left.answer ≡ 0 → left'.answer ≡ 0 → Agree left left'
  kinds_agree z z' =
      let ok = eq-eqb (refusal_for kind lent) 0 (sym m.answer ∙ z) in
      let ok' = eq-eqb (refusal_for kind' lent) 0 (sym m'.answer ∙ z') in
      record {
        answer_same = z ∙ sym z';
        histories_same = rw ok at m.histories ∙ ap (histories_played lent) same ∙ sym (rw ok' at m'.histories);
        positions_same = rw ok at m.positions ∙ ap (positions_played lent) same ∙ sym (rw ok' at m'.positions);
        head_out_same = rw ok at m.head_out ∙ ap (head_played lent) same ∙ sym (rw ok' at m'.head_out);
        array_out_same = rw ok at m.array_out ∙ ap (array_played lent) same ∙ sym (rw ok' at m'.array_out);
      }

-- ---- what scratch held is of no account
module _ (b : Lent) (scratch : List Float) (long : length scratch ≡ length b.scratch) where
  seven_same : (n : ℕ) → refused7 (with_scratch b scratch) n ≡ refused7 b n
  unfolding refused7
  seven_same n = rw long

  eight_same : refused8 (with_scratch b scratch) ≡ refused8 b
  unfolding refused8
  eight_same = refl

  block_same : (n : ℕ) → block_refusal (with_scratch b scratch) n ≡ block_refusal b n
  unfolding block_refusal
  block_same n = rw (seven_same n, eight_same)

  nine_same : (n : ℕ) (plan : List ℕ) → refused9 (with_scratch b scratch) n plan ≡ refused9 b n plan
  unfolding refused9
  nine_same n plan = refl

  refusal_same : (kind : Kind) → refusal_for kind (with_scratch b scratch) ≡ refusal_for kind b
  unfolding refusal_for column_refusal planned_refusal
  refusal_same column = rw (seven_same 1, eight_same)
  refusal_same (block n) = block_same n
  refusal_same (planned n plan) = rw (block_same n, nine_same n plan)

  same_histories : (n : ℕ) → histories_played (with_scratch b scratch) n ≡ histories_played b n
  unfolding histories_played states_from brought
  same_histories n = refl

  same_positions : (n : ℕ) → positions_played (with_scratch b scratch) n ≡ positions_played b n
  unfolding positions_played states_from brought
  same_positions n = refl

  same_head : (n : ℕ) → head_played (with_scratch b scratch) n ≡ head_played b n
  unfolding head_played columns_from brought
  same_head n = refl

  same_array : (n : ℕ) → array_played (with_scratch b scratch) n ≡ array_played b n
  unfolding array_played columns_from brought
  same_array n = refl

  -- a call with another scratch of the same length comes to the same
  pub whatever_scratch : (kind : Kind) (left left' : Left) → Meets (record { kind = kind; lent = b; left = left })
      → Meets (record { kind = kind; lent = with_scratch b scratch; left = left' }) → Agree left left'
  whatever_scratch kind left left' m m' =
      let n = count_of kind in
      let r : refusal_for kind (with_scratch b scratch) ≡ refusal_for kind b = refusal_same kind in
      record {
        answer_same = m.answer ∙ sym (m'.answer ∙ r);
        histories_same = m.histories ∙ sym (m'.histories ∙ rw (r, same_histories n));
        positions_same = m.positions ∙ sym (m'.positions ∙ rw (r, same_positions n));
        head_out_same = m.head_out ∙ sym (m'.head_out ∙ rw (r, same_head n));
        array_out_same = m.array_out ∙ sym (m'.array_out ∙ rw (r, same_array n));
      }
