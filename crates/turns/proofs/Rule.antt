-- Laws on a plan's rule: turn by turn, for a loop that takes a plan's numbers two by two. Assumes nothing.
use mathlib.Core.Path.{◌≡◌, refl, sym, ◌∙◌, ap}
use mathlib.Core.Bool.{Bool, true, false, and-false, ◌&&◌}
use mathlib.Core.List.{List, [], ◌∷◌, ◌++◌}
use Prim.Native.Nat.{ℕ, zero, suc, ◌+◌, ◌*◌, ◌≤◌, ◌<◌}
use native.Mathlib.Nat.{not-suc-le-zero}
use native.Mathlib.Omega.{arith}
use lib.Dec.{eqb, leb, ltb}
use lib.ListN.{get_or, length, length-set, replicate}
use lib.Seq.{get_or-set_other, get_or-set_same}
use borrow.Author.Tests.{eqb-false, eqb-true, le-leb, leb-true, lt-ltb, ltb-true}
use Rattle.turns.specs.Plan.{all_are, allows, keeps_from, keeps_rule, limit, taken}

no : {P : Type 0} → false ≡ true → P
no e = absurd (let z : ◌≡◌ {A = ℕ} 0 1 = cc in omega arith)

pub left_true : (a b : Bool) → (a && b) ≡ true → a ≡ true
left_true true b e = refl
left_true false b e = e

pub right_true : (a b : Bool) → (a && b) ≡ true → b ≡ true
right_true true b e = e
right_true false b e = no e

-- what an allowed turn is
pub record Allowed (stages n : ℕ) (reached : List ℕ) (stage count : ℕ) : Type 0 where
  pub there : stage < stages
  pub some : 1 ≤ count
  pub within : get_or reached stage 0 + count ≤ limit n reached stage

module _ (stages n : ℕ) (reached : List ℕ) (stage count : ℕ) where
  pub allowed : allows stages n reached stage count ≡ true → Allowed stages n reached stage count
  unfolding allows
  allowed e =
      let f = left_true (ltb stage stages && leb 1 count) (leb (get_or reached stage 0 + count) (limit n reached stage)) e in
      record {
        there = ltb-true stage stages (left_true (ltb stage stages) (leb 1 count) f);
        some = leb-true 1 count (right_true (ltb stage stages) (leb 1 count) f);
        within = leb-true (get_or reached stage 0 + count) (limit n reached stage)
            (right_true (ltb stage stages && leb 1 count) (leb (get_or reached stage 0 + count) (limit n reached stage)) e);
      }

  pub allowing : Allowed stages n reached stage count → allows stages n reached stage count ≡ true
  unfolding allows
  allowing a =
      rw (
        lt-ltb stage stages a.there,
        le-leb 1 count a.some,
        le-leb (get_or reached stage 0 + count) (limit n reached stage) a.within,
      )

-- how far the stages have reached after a turn
module _ (reached : List ℕ) (stage count : ℕ) where
  pub length_taken : length (taken reached stage count) ≡ length reached
  unfolding taken
  length_taken = length-set reached stage (get_or reached stage 0 + count)

  pub taken_same : stage < length reached → get_or (taken reached stage count) stage 0 ≡ get_or reached stage 0 + count
  unfolding taken
  taken_same lt = get_or-set_same reached stage (get_or reached stage 0 + count) 0 lt

  pub taken_other : (k : ℕ) → (k ≡ stage → ⊥) → get_or (taken reached stage count) k 0 ≡ get_or reached k 0
  unfolding taken
  taken_other k ne = get_or-set_other reached stage k (get_or reached stage 0 + count) 0 ne

-- no stage gets past n, whatever allowed turns are taken
pub record NonePast (n : ℕ) (reached : List ℕ) : Type 0 where
  pub most : (k : ℕ) → get_or reached k 0 ≤ n

pub limit_le : (n : ℕ) (reached : List ℕ) (stage : ℕ) → NonePast n reached → limit n reached stage ≤ n
unfolding limit
limit_le n reached zero b = omega arith
limit_le n reached (suc k) b = b.most k

none_first : (n stages k : ℕ) → get_or (replicate stages 0) k 0 ≤ n
none_first n zero k = omega arith
none_first n (suc stages) zero = omega arith
none_first n (suc stages) (suc k) = none_first n stages k

pub none-past_first : (n stages : ℕ) → NonePast n (replicate stages 0)
none-past_first n stages = record { most = none_first n stages }

module _ {stages n : ℕ} {reached : List ℕ} {stage count : ℕ} (turn : Allowed stages n reached stage count) (fits : length reached ≡ stages)
    (before : NonePast n reached) where
  by_stage : (k : ℕ) (t : Bool) → t ≡ eqb k stage → get_or (taken reached stage count) k 0 ≤ n
  by_stage k true e =
      rw (eqb-true k stage (sym e), taken_same reached stage count (omega (arith, turn.there, fits)))
      (omega (arith, turn.within, limit_le n reached stage before))
  by_stage k false e = omega (arith, taken_other reached stage count k (eqb-false k stage (sym e)), before.most k)

  pub none-past_more : NonePast n (taken reached stage count)
  none-past_more = record { most = λ k. by_stage k (eqb k stage) refl }

-- all numbers of a list are n
pub all_are_each : (n : ℕ) (reached : List ℕ) → all_are n reached ≡ true → (k : ℕ) → k < length reached → get_or reached k 0 ≡ n
unfolding all_are
all_are_each n [] e k lt = absurd (not-suc-le-zero lt)
all_are_each n (r ∷ rs) e zero lt = eqb-true r n (left_true (eqb r n) (all_are n rs) e)
all_are_each n (r ∷ rs) e (suc k) lt = all_are_each n rs (right_true (eqb r n) (all_are n rs) e) k (omega arith)

module _ (stages n : ℕ) where
  -- an odd length is refused, wherever the stages stand
  pub odd_refused : (reached plan : List ℕ) (k : ℕ) → length plan ≡ 2 * k + 1 → keeps_from stages n reached plan ≡ false
  unfolding keeps_from
  odd_refused reached [] k e = absurd (omega arith)
  odd_refused reached (stage ∷ []) k e = refl
  odd_refused reached (stage ∷ count ∷ plan) zero e = absurd (omega arith)
  odd_refused reached (stage ∷ count ∷ plan) (suc k) e =
      rw (odd_refused (taken reached stage count) plan k (omega arith)) (and-false (allows stages n reached stage count))

-- where a loop over the plan begins
pub rule_first : (stages n : ℕ) (plan : List ℕ) → keeps_rule stages n plan ≡ true → keeps_from stages n (replicate stages 0) plan ≡ true
unfolding keeps_rule
rule_first stages n plan e = e

pub rule_even : (stages n : ℕ) (plan : List ℕ) (k : ℕ) → keeps_rule stages n plan ≡ true → length plan ≡ 2 * k + 1 → ⊥
unfolding keeps_rule
rule_even stages n plan k e odd = no (sym (odd_refused stages n (replicate stages 0) plan k odd) ∙ e)

-- a walk that takes the plan's numbers two by two
module _ (stages n : ℕ) (reached : List ℕ) where
  -- one turn, and the rest
  pub pair_is : (pair rest : List ℕ) → length pair ≡ 2
      → keeps_from stages n reached (pair ++ rest)
      ≡ (allows stages n reached (get_or pair 0 0) (get_or pair 1 0) && keeps_from stages n (taken reached (get_or pair 0 0) (get_or pair 1 0)) rest)
  unfolding keeps_from
  pair_is [] rest e = absurd (omega (arith, e))
  pair_is (stage ∷ []) rest e = absurd (omega (arith, e))
  pair_is (stage ∷ count ∷ []) rest e = refl
  pair_is (stage ∷ count ∷ x ∷ xs) rest e = absurd (omega (arith, e))

  -- no turn is left
  pub over_is : (rest : List ℕ) (k : ℕ) → length rest < 2 → length rest ≡ 2 * k → keeps_from stages n reached rest ≡ all_are n reached
  unfolding keeps_from
  over_is [] k l e = refl
  over_is (stage ∷ []) k l e = absurd (omega (arith, e))
  over_is (stage ∷ count ∷ rest) k l e = absurd (omega (arith, l))

  -- the same for a plan that keeps the rule
  module _ (left : List ℕ) (keeps : keeps_from stages n reached left ≡ true) where
    module _ (pair rest : List ℕ) (parts : left ≡ pair ++ rest) (two : length pair ≡ 2) where
      turn_then : (allows stages n reached (get_or pair 0 0) (get_or pair 1 0) && keeps_from stages n (taken reached (get_or pair 0 0) (get_or pair 1 0)) rest) ≡ true
      turn_then = sym (pair_is pair rest two) ∙ ap (keeps_from stages n reached) (sym parts) ∙ keeps

      pub pair_allowed : Allowed stages n reached (get_or pair 0 0) (get_or pair 1 0)
      pair_allowed = allowed stages n reached _ _ (left_true _ _ turn_then)

      pub pair_keeps : keeps_from stages n (taken reached (get_or pair 0 0) (get_or pair 1 0)) rest ≡ true
      pair_keeps = right_true (allows stages n reached (get_or pair 0 0) (get_or pair 1 0)) _ turn_then

    -- no turn is left: one number alone would break the rule
    all_over : (rest : List ℕ) → keeps_from stages n reached rest ≡ true → length rest < 2 → all_are n reached ≡ true
    unfolding keeps_from
    all_over [] k l = k
    all_over (stage ∷ []) k l = no k
    all_over (stage ∷ count ∷ rest) k l = absurd (omega (arith, l))

    pub over_reached : length left < 2 → (k : ℕ) → k < length reached → get_or reached k 0 ≡ n
    over_reached l k lt = all_are_each n reached (all_over left keeps l) k lt
