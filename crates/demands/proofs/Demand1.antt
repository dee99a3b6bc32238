-- Demand 1: a call's answer is its refusal number, 0 for none: the first of its tests that holds. Document 01, 'Refusal numbers'. Assumes nothing.
use mathlib.Core.Path.{◌≡◌}
use mathlib.Core.List.{List}
use Prim.Native.Nat.{ℕ}
use Rattle.array.specs.Lent.{Lent, Left}
use Rattle.array.specs.Refusals.{column_refusal, block_refusal, planned_refusal}
use Rattle.demands.specs.Calls.{column, block, planned, refusal_for, Meets}

module _ (lent : Lent) (left : Left) where
  pub column_answer : Meets (record { kind = column; lent = lent; left = left }) → left.answer ≡ column_refusal lent
  unfolding refusal_for
  column_answer m = m.answer

  pub block_answer : (n : ℕ) → Meets (record { kind = block n; lent = lent; left = left }) → left.answer ≡ block_refusal lent n
  unfolding refusal_for
  block_answer n m = m.answer

  pub planned_answer : (n : ℕ) (plan : List ℕ) → Meets (record { kind = planned n plan; lent = lent; left = left }) → left.answer ≡ planned_refusal lent n plan
  unfolding refusal_for
  planned_answer n plan m = m.answer
