-- Numbers of refusals, one test after the other: a refusal, or else the number of a test that holds. Assumes nothing.
use mathlib.Core.Path.{◌≡◌, refl, sym}
use mathlib.Core.Bool.{Bool, true, false, cond}
use mathlib.Core.Logic.{◌↔◌}
use Prim.Native.Nat.{ℕ, ◌≤◌, ◌<◌}
use native.Mathlib.Omega.{arith}
use lib.Dec.{eqb}
use borrow.Author.Tests.{eqb-false, eqb-true}

pub no : {P : Type 0} → false ≡ true → P
no e = absurd (let z : ◌≡◌ {A = ℕ} 0 1 = cc in omega arith)

-- a refusal r, or else number k where test t holds; b is whether r is 0
abbrev pub or_else : Bool → ℕ → Bool → ℕ → ℕ
or_else b r t k = cond b (cond t k 0) r

none_by : (b : Bool) (r : ℕ) (t : Bool) (k : ℕ) → b ≡ eqb r 0 → 0 < k → (or_else b r t k ≡ 0) ↔ (r ≡ 0) × (t ≡ false)
none_by true r true k e p = (λ q. absurd (omega arith), λ q. no (sym q.1))
none_by true r false k e p = (λ q. (eqb-true r 0 (sym e), refl), λ q. refl)
none_by false r t k e p = (λ q. absurd (eqb-false r 0 (sym e) q), λ q. q.0)

this_by : (b : Bool) (r : ℕ) (t : Bool) (k : ℕ) → b ≡ eqb r 0 → r < k → (or_else b r t k ≡ k) ↔ (r ≡ 0) × (t ≡ true)
this_by true r true k e p = (λ q. (eqb-true r 0 (sym e), refl), λ q. refl)
this_by true r false k e p = (λ q. absurd (omega arith), λ q. no q.1)
this_by false r t k e p = (λ q. absurd (omega arith), λ q. absurd (eqb-false r 0 (sym e) q.0))

lower_by : (b : Bool) (r : ℕ) (t : Bool) (k : ℕ) → b ≡ eqb r 0 → (m : ℕ) → 0 < m → m < k → (or_else b r t k ≡ m) ↔ (r ≡ m)
lower_by true r true k e m p lt = (λ q. absurd (omega arith), λ q. absurd (omega (arith, eqb-true r 0 (sym e))))
lower_by true r false k e m p lt = (λ q. absurd (omega arith), λ q. absurd (omega (arith, eqb-true r 0 (sym e))))
lower_by false r t k e m p lt = (λ q. q, λ q. q)

most_by : (b : Bool) (r : ℕ) (t : Bool) (k : ℕ) → r ≤ k → or_else b r t k ≤ k
most_by true r true k le = omega arith
most_by true r false k le = omega arith
most_by false r t k le = le

same_by : (b : Bool) (r : ℕ) (k : ℕ) → b ≡ eqb r 0 → or_else b r false k ≡ r
same_by true r k e = sym (eqb-true r 0 (sym e))
same_by false r k e = refl

module _ (r : ℕ) (t : Bool) (k : ℕ) where
  pub none : 0 < k → (or_else (eqb r 0) r t k ≡ 0) ↔ (r ≡ 0) × (t ≡ false)
  none p = none_by (eqb r 0) r t k refl p

  pub this : r < k → (or_else (eqb r 0) r t k ≡ k) ↔ (r ≡ 0) × (t ≡ true)
  this p = this_by (eqb r 0) r t k refl p

  pub lower : (m : ℕ) → 0 < m → m < k → (or_else (eqb r 0) r t k ≡ m) ↔ (r ≡ m)
  lower m p lt = lower_by (eqb r 0) r t k refl m p lt

  pub at_most : r ≤ k → or_else (eqb r 0) r t k ≤ k
  at_most le = most_by (eqb r 0) r t k le

pub same : (r k : ℕ) → or_else (eqb r 0) r false k ≡ r
same r k = same_by (eqb r 0) r k refl

-- both ways, one after the other
infixr 20 ◌then◌
pub ◌then◌ : {P Q R : Type 0} → P ↔ Q → Q ↔ R → P ↔ R
f then g = (λ p. g.0 (f.0 p), λ r. f.1 (g.1 r))
