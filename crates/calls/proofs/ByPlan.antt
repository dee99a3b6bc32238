-- A planned block: one turn after the other, in the plan's order. How far the stages are is what the rule calls their limit. Assumes nothing.
use mathlib.Core.Path.{◌≡◌, refl, sym, ◌∙◌, ap}
use mathlib.Core.Bool.{true}
use mathlib.Core.List.{List, ◌++◌}
use mathlib.Core.Logic.{⊎_elim}
use Prim.Native.Nat.{ℕ, zero, suc, ◌+◌, ◌≤◌, ◌<◌}
use native.Mathlib.Omega.{arith}
use borrow.Author.Tests.{eq-eqb, ne_eqb}
use lib.ListN.{length, get_or, replicate, length-replicate}
use Rattle.lists.proofs.Nums.{le_or_lt}
use Rattle.turns.specs.Plan.{limit, taken, keeps_from, keeps_rule}
use Rattle.turns.proofs.Rule.{Allowed, NonePast, limit_le, none-past_first, none-past_more, pair_allowed, pair_keeps, over_reached, taken_same, taken_other, length_taken, rule_first}
use Rattle.array.specs.Stages.{stage_count}
use Rattle.array.specs.Lent.{Lent, given}
use Rattle.array.specs.Turn.{Changing, changing, TurnDone}
use Rattle.array.proofs.Turning.{moved}
use Rattle.stage.specs.Turns.{Placed}
use Rattle.calls.specs.Fit.{Fit, Done}
use Rattle.calls.proofs.UnderWay.{UnderWay, at_first, begins_as, goes_on, ends}

-- what is left of the plan keeps the rule
pub record OnPlan (b : Lent) (n : ℕ) (left reached : List ℕ) : Type 0 where
  pub stages : length reached ≡ stage_count b.description
  pub keeps : keeps_from (stage_count b.description) n reached left ≡ true
  pub none-past : NonePast n reached

module _ (b : Lent) (n : ℕ) where
  pub plan_begins : (plan left reached : List ℕ) → left ≡ plan → reached ≡ replicate (stage_count b.description) 0 → keeps_rule (stage_count b.description) n plan ≡ true → OnPlan b n left reached
  plan_begins plan left reached whole is keeps = record {
    stages = ap length is ∙ length-replicate (stage_count b.description) 0;
    keeps = rw (is, whole) (rule_first (stage_count b.description) n plan keeps);
    none-past = rw is (none-past_first n (stage_count b.description));
  }

  module _ {left reached : List ℕ} (on : OnPlan b n left reached) where
    module _ (pair rest : List ℕ) (parts : left ≡ pair ++ rest) (two : length pair ≡ 2) where
      pub this_turn : Allowed (stage_count b.description) n reached (get_or pair 0 0) (get_or pair 1 0)
      this_turn = pair_allowed (stage_count b.description) n reached left on.keeps pair rest parts two

      pub within_block : get_or reached (get_or pair 0 0) 0 + get_or pair 1 0 ≤ n
      within_block = omega (arith, this_turn.within, limit_le n reached (get_or pair 0 0) on.none-past)

      pub plan_goes_on : OnPlan b n rest (taken reached (get_or pair 0 0) (get_or pair 1 0))
      plan_goes_on = record {
        stages = length_taken reached (get_or pair 0 0) (get_or pair 1 0) ∙ on.stages;
        keeps = pair_keeps (stage_count b.description) n reached left on.keeps pair rest parts two;
        none-past = none-past_more this_turn on.stages on.none-past;
      }

    -- at the plan's end all stages stand at n
    pub plan_over : length left < 2 → (k : ℕ) → k ≤ stage_count b.description → limit n reached k ≡ n
    unfolding limit
    plan_over past zero h = refl
    plan_over past (suc k) h = over_reached (stage_count b.description) n reached left on.keeps past k (omega (arith, h, on.stages))

  module _ {size : ℕ} (fit : Fit b n size) where
    first_limit : (reached : List ℕ) → reached ≡ replicate (stage_count b.description) 0 → (j : ℕ) → at_first b n j ≡ limit n reached j
    unfolding limit
    first_limit reached is zero = refl
    first_limit reached is (suc k) = let q = (none-past_first 0 (stage_count b.description)).most k in let e : get_or reached k 0 ≡ 0 = rw is (omega (arith, q)) in sym e

    pub planned_begins : (reached : List ℕ) → reached ≡ replicate (stage_count b.description) 0
        → UnderWay b n size (changing b) (limit n reached)
    planned_begins reached is = begins_as b fit (limit n reached) (first_limit reached is)

    module _ {e e' : Changing} {reached : List ℕ} (k count : ℕ) (way : UnderWay b n size e (limit n reached)) (turn : Allowed (stage_count b.description) n reached k count)
        (long : length reached ≡ stage_count b.description)
        (done : TurnDone (given b) n k (get_or reached k 0) count e e') (placed : Placed b.description e'.positions)
        (head_long : length e'.head_out ≡ length e.head_out) (array_long : length e'.array_out ≡ length e.array_out) (scratch_long : length e'.scratch ≡ length e.scratch) where
      moved_is : (j : ℕ) → moved (limit n reached) k (get_or reached k 0 + count) j ≡ limit n (taken reached k count) j
      unfolding limit
      moved_is zero = rw (ne_eqb 0 (suc k) (λ z. omega (arith, z)))
      moved_is (suc j) =
          ⊎_elim
          (λ (l : j ≤ k). ⊎_elim
          (λ (l2 : k ≤ j). let z : j ≡ k = omega (arith, l, l2) in rw (eq-eqb (suc j) (suc k) (ap suc z), z) (sym (taken_same reached k count (omega (arith, turn.there, long)))))
          (λ (l2 : j < k). rw (ne_eqb (suc j) (suc k) (λ z. omega (arith, z, l2))) (sym (taken_other reached k count j (λ z. omega (arith, z, l2)))))
          (le_or_lt k j))
          (λ (l : k < j). rw (ne_eqb (suc j) (suc k) (λ z. omega (arith, z, l))) (sym (taken_other reached k count j (λ z. omega (arith, z, l)))))
          (le_or_lt j k)

      here_is : limit n reached (suc k) ≡ get_or reached k 0
      unfolding limit
      here_is = refl

      pub planned_goes_on : UnderWay b n size e' (limit n (taken reached k count))
      planned_goes_on =
          goes_on b fit k (get_or reached k 0) count way turn.there here_is turn.within done placed head_long array_long scratch_long (limit n (taken reached k count)) moved_is

    pub planned_ends : {e : Changing} {left reached : List ℕ} → UnderWay b n size e (limit n reached) → OnPlan b n left reached → length left < 2 → Done b n e
    planned_ends way on past = ends b fit way (plan_over on past)
