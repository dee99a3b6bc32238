-- The theorems on reset: each number is given exactly when its test holds and no lower one, both ways; refused, every buffer is what it was; any two
-- results agree. Assumes nothing.
use mathlib.Core.Path.{◌≡◌, refl, sym, ◌∙◌}
use mathlib.Core.Bool.{Bool, true, false, cond}
use mathlib.Core.List.{List}
use mathlib.Core.Logic.{◌↔◌}
use Prim.Native.Nat.{ℕ, ◌+◌, ◌≤◌, ◌<◌}
use native.Mathlib.Omega.{arith}
use lib.Dec.{eqb}
use lib.ListN.{length}
use lib.Ieee.{Float}
use borrow.Author.Tests.{eq-eqb, eqb-true, ne_eqb}
use Rattle.description.specs.Refusals.{refusal_of}
use Rattle.description.proofs.Facts.{First, refusal_exactly_when, refusal_most, tests_of}
use Rattle.reset.specs.Resets.{Resets, refused7, reset_number}

-- the number of 1 to 5, or of 7, whatever the test of 7 says
low_by : (n m : ℕ) (b t : Bool) → b ≡ eqb n 0 → m < 7 → 0 < m → (cond b (cond t 7 0) n ≡ m) ↔ (n ≡ m)
low_by n m true true e lt p = (λ q. absurd (omega arith), λ q. absurd (omega (arith, eqb-true n 0 (sym e))))
low_by n m true false e lt p = (λ q. absurd (omega arith), λ q. absurd (omega (arith, eqb-true n 0 (sym e))))
low_by n m false t e lt p = (λ q. q, λ q. q)

seven_by : (n : ℕ) (b t : Bool) → b ≡ eqb n 0 → n ≤ 5 → (cond b (cond t 7 0) n ≡ 7) ↔ (n ≡ 0) × (t ≡ true)
seven_by n true true e le = (λ q. (eqb-true n 0 (sym e), refl), λ q. refl)
seven_by n true false e le = (λ q. absurd (omega arith), λ q. absurd (let z : ◌≡◌ {A = ℕ} 0 1 = cc q.1 in omega arith))
seven_by n false t e le = (λ q. absurd (omega arith), λ q. absurd (let z : ◌≡◌ {A = ℕ} 0 1 = cc (e, eq-eqb n 0 q.0) in omega arith))

module _ {d : List ℕ} {histories : List Float} {positions : List ℕ} {r : ℕ} {histories' : List Float} {positions' : List ℕ}
    (reset : Resets d histories positions r histories' positions') where
  -- 1 to 5 exactly when the description is refused so
  pub given_exactly_when : (k : ℕ) → k < 5 → (r ≡ k + 1) ↔ First (tests_of d) k
  unfolding reset_number
  given_exactly_when k lt =
      let by = low_by (refusal_of d) (k + 1) (eqb (refusal_of d) 0) (refused7 d (length histories) (length positions)) refl (omega arith) (omega arith) in (
        λ e. (refusal_exactly_when d k).0 (by.0 (sym reset.number ∙ e)),
        λ f. reset.number ∙ by.1 ((refusal_exactly_when d k).1 f),
      )

  -- 7 exactly when the description is not refused and a buffer's length differs from its size
  pub seven_exactly_when : (r ≡ 7) ↔ (refusal_of d ≡ 0) × (refused7 d (length histories) (length positions) ≡ true)
  unfolding reset_number
  seven_exactly_when =
      let by = seven_by (refusal_of d) (eqb (refusal_of d) 0) (refused7 d (length histories) (length positions)) refl (refusal_most d) in
      (λ e. by.0 (sym reset.number ∙ e), λ f. reset.number ∙ by.1 f)

  -- refused, nothing is changed
  pub nothing_changed : (r ≡ 0 → ⊥) → (histories' ≡ histories) × (positions' ≡ positions)
  nothing_changed ne = (rw (ne_eqb r 0 ne) at reset.silent, rw (ne_eqb r 0 ne) at reset.rewound)

  -- any two results that meet the contract agree
  pub resets_agree : {s : ℕ} {histories'' : List Float} {positions'' : List ℕ} → Resets d histories positions s histories'' positions''
      → (r ≡ s) × (histories' ≡ histories'') × (positions' ≡ positions'')
  resets_agree other =
      let e : r ≡ _ = reset.number ∙ sym other.number in (
        e,
        reset.silent ∙ rw e (sym other.silent),
        reset.rewound ∙ rw e (sym other.rewound),
      )
