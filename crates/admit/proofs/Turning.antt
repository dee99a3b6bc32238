-- The tests of a turn and of a plan's end, one by one, against the definitions. Assumes nothing.
use mathlib.Core.Path.{◌≡◌, refl, sym, ◌∙◌, ap}
use mathlib.Core.Bool.{Bool, true, false, and-false, cond, ◌&&◌}
use mathlib.Core.List.{List, ◌∷◌, ◌++◌}
use Prim.Native.Nat.{ℕ, zero, suc, ◌+◌, ◌-◌, ◌*◌, ◌%◌, ◌≤◌, ◌<◌}
use native.Mathlib.Nat.{le_of_suc-le-suc, not-suc-le-zero, sub-zero}
use native.Mathlib.Omega.{arith}
use lib.Dec.{leb, ltb}
use lib.ListN.{get_or, length, length-replicate, replicate, take}
use Rattle.std.proofs.Common.{length-append}
use borrow.Author.Tests.{le-ltb, lt-leb}
use Rattle.turns.specs.Plan.{all_are, allows, keeps_from, keeps_rule, limit, taken}
use Rattle.turns.proofs.Rule.{allowing, over_is, pair_is}

pub limit_zero : (n : ℕ) (reached : List ℕ) (stage : ℕ) → stage ≡ 0 → n ≡ limit n reached stage
unfolding limit
limit_zero n reached stage e = rw e

pub limit-past : (n : ℕ) (reached : List ℕ) (stage : ℕ) → (stage ≡ 0 → ⊥) → get_or reached (stage - 1) 0 ≡ limit n reached stage
unfolding limit
limit-past n reached zero ne = absurd (ne refl)
limit-past n reached (suc k) ne = let e : suc k - 1 ≡ k = omega arith in rw e

module _ (n : ℕ) (reached : List ℕ) (stage count : ℕ) where
  pub no_stage : length reached ≤ stage → false ≡ allows (length reached) n reached stage count
  unfolding allows
  no_stage le = rw (le-ltb stage (length reached) le)

  pub no_count : count < 1 → false ≡ allows (length reached) n reached stage count
  unfolding allows
  no_count lt = rw (lt-leb 1 count lt, and-false (ltb stage (length reached)))

  pub too_far : limit n reached stage < get_or reached stage 0 + count → false ≡ allows (length reached) n reached stage count
  unfolding allows
  too_far lt =
      rw (lt-leb (get_or reached stage 0 + count) (limit n reached stage) lt) (sym (and-false (ltb stage (length reached) && leb 1 count)))

  pub is_allowed : stage < length reached → 1 ≤ count → get_or reached stage 0 + count ≤ limit n reached stage
      → true ≡ allows (length reached) n reached stage count
  is_allowed there some within =
      sym (allowing (length reached) n reached stage count (record { there = there; some = some; within = within }))

-- the walk over the turns: v is what the whole plan comes to
module _ (stages n : ℕ) (reached : List ℕ) (v : Bool) (long : length reached ≡ stages) (left : List ℕ) (so_far : keeps_from stages n reached left ≡ v) where
  module _ (pair rest : List ℕ) (parts : left ≡ pair ++ rest) (two : length pair ≡ 2) {b : Bool} {reached' : List ℕ}
      (told : b ≡ allows (length reached) n reached (get_or pair 0 0) (get_or pair 1 0))
      (after : reached' ≡ cond b (taken reached (get_or pair 0 0) (get_or pair 1 0)) reached) where
    answer : allows stages n reached (get_or pair 0 0) (get_or pair 1 0) ≡ b
    answer = sym (told ∙ ap (λ (s : ℕ). allows s n reached (get_or pair 0 0) (get_or pair 1 0)) long)

    turn_then : (allows stages n reached (get_or pair 0 0) (get_or pair 1 0) && keeps_from stages n (taken reached (get_or pair 0 0) (get_or pair 1 0)) rest) ≡ v
    turn_then = sym (pair_is stages n reached pair rest two) ∙ ap (keeps_from stages n reached) (sym parts) ∙ so_far

    pub turn_refused : b ≡ false → false ≡ v
    turn_refused q = rw (answer, q) at turn_then

    pub turn_taken : b ≡ true → keeps_from stages n reached' rest ≡ v
    turn_taken q =
        let e : reached' ≡ taken reached (get_or pair 0 0) (get_or pair 1 0) = rw q at after in
        rw e (rw (answer, q) at turn_then)

  pub plan_ended : (k : ℕ) → length left < 2 → length left ≡ 2 * k → {b : Bool} → b ≡ all_are n reached → b ≡ v
  plan_ended k le even e = e ∙ sym (over_is stages n reached left k le even) ∙ so_far

-- what is left after two numbers is even where it was before
pub evened : (left pair rest : List ℕ) → left ≡ pair ++ rest → length pair ≡ 2 → length left % 2 ≡ 0 → length rest % 2 ≡ 0
evened left pair rest parts two even = let e : length left ≡ length pair + length rest = ap length parts ∙ length-append pair rest in omega (arith, e, two, even)

-- as many stages as there are, of an array of zeros
abbrev zeros : ℕ → List ℕ
zeros n = replicate n 0

take_zeros : (s m : ℕ) → s ≤ m → take s (zeros m) ≡ zeros s
take_zeros zero m le = refl
take_zeros (suc s) zero le = absurd (not-suc-le-zero le)
take_zeros (suc s) (suc m) le = ap (λ (l : List ℕ). 0 ∷ l) (take_zeros s m (le_of_suc-le-suc le))

pub rule_from : (stages n : ℕ) (plan : List ℕ) → stages ≤ 26 → {b : Bool}
    → b ≡ keeps_from (length (take (stages - 0) (zeros 26))) n (take (stages - 0) (zeros 26)) plan → b ≡ keeps_rule stages n plan
unfolding keeps_rule
rule_from stages n plan le e =
    let q : take (stages - 0) (zeros 26) ≡ zeros stages = rw (sub-zero stages) (take_zeros stages 26 le) in
    rw (q, length-replicate {A = ℕ} stages 0) at e
