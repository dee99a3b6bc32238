-- The theorems on the answers of the check and of `sizes`: a number is given exactly when its test holds and no lower one, both ways; any two results
-- agree; the values are the formulas. Assumes nothing.
use Rattle.refusal.specs.declared.Refusal.{Refusal}
use Rattle.refusal.proofs.Named.{named, named_number}
use Rattle.std.specs.Prelude.{Err, Ok}
use mathlib.Core.Path.{◌≡◌, refl, sym, ◌∙◌, ap}
use mathlib.Core.Bool.{Bool, true, false, cond}
use mathlib.Core.List.{List, [], ◌∷◌}
use mathlib.Core.Logic.{◌↔◌}
use Prim.Native.Nat.{ℕ, zero, suc, ◌+◌, ◌≤◌, ◌<◌}
use native.Mathlib.Nat.{not-suc-le-zero}
use native.Mathlib.Omega.{arith}
use lib.Dec.{eqb}
use lib.ListN.{get_or}
use borrow.Author.Tests.{eq-eqb, ne_eqb}
use Rattle.description.specs.Answers.{Answers, listed, values_of}
use Rattle.refusal.specs.Number.{number, number_of}
use Rattle.description.specs.Refusals.{refusal_of, refused1, refused2, refused3, refused4, refused5}
use Rattle.description.specs.Sizes.{sizes_of}
use Rattle.description.specs.declared.answers.Sizes.{Sizes}
use Rattle.description.specs.Checked.{Checked}

-- test k holds, and none before it
pub record First (tests : List Bool) (k : ℕ) : Type 0 where
  pub holds : get_or tests k false ≡ true
  pub lower : (j : ℕ) → j < k → get_or tests j false ≡ false

-- the number of the first test that holds, counted on from n; 0 where none does
number_from : ℕ → List Bool → ℕ
number_from n [] = 0
number_from n (t ∷ tests) = cond t (n + 1) (number_from (n + 1) tests)

no : {P : Type 0} → false ≡ true → P
no e = absurd (let z : ◌≡◌ {A = ℕ} 0 1 = cc in omega arith)

-- it lies past n
past : (n k : ℕ) (tests : List Bool) → number_from n tests ≡ k + 1 → n ≤ k
unfolding number_from
past n k [] e = absurd (omega arith)
past n k (true ∷ tests) e = omega arith
past n k (false ∷ tests) e = omega (arith, past (n + 1) k tests e)

below : {k : ℕ} {tests : List Bool} → First tests k → (j : ℕ) → j < suc k → get_or (false ∷ tests) j false ≡ false
below f zero lt = refl
below f (suc j) lt = f.lower j (omega arith)

first_of : (n k : ℕ) (tests : List Bool) → number_from n tests ≡ n + k + 1 → First tests k
unfolding number_from
first_of n k [] e = absurd (omega arith)
first_of n zero (true ∷ tests) e = record { holds = refl; lower = λ j lt. absurd (not-suc-le-zero lt) }
first_of n (suc k) (true ∷ tests) e = absurd (omega arith)
first_of n zero (false ∷ tests) e = absurd (omega (arith, past (n + 1) (n + 0) tests e))
first_of n (suc k) (false ∷ tests) e =
    let f = first_of (n + 1) k tests (e ∙ omega arith) in record { holds = f.holds; lower = below f }

of_first : (n k : ℕ) (tests : List Bool) → First tests k → number_from n tests ≡ n + k + 1
unfolding number_from
of_first n k [] f = no f.holds
of_first n zero (true ∷ tests) f = omega arith
of_first n (suc k) (true ∷ tests) f = no (sym (f.lower 0 (omega arith)))
of_first n zero (false ∷ tests) f = no f.holds
of_first n (suc k) (false ∷ tests) f =
    of_first (n + 1) k tests (record { holds = f.holds; lower = λ j lt. f.lower (suc j) (omega arith) }) ∙ omega arith

-- the tests of the refusals 1 to 5
unfoldable pub tests_of : List ℕ → List Bool
tests_of d = refused1 d ∷ refused2 d ∷ refused3 d ∷ refused4 d ∷ refused5 d ∷ []

refusal_first : (d : List ℕ) → refusal_of d ≡ number_from 0 (tests_of d)
unfolding refusal_of tests_of number_from
refusal_first d = refl

five : (a b c e f : Bool) → cond a 1 (cond b 2 (cond c 3 (cond e 4 (cond f 5 0)))) ≤ 5
five true b c e f = omega arith
five false true c e f = omega arith
five false false true e f = omega arith
five false false false true f = omega arith
five false false false false true = omega arith
five false false false false false = omega arith

pub refusal_exactly_when : (d : List ℕ) (k : ℕ) → (refusal_of d ≡ k + 1) ↔ First (tests_of d) k
refusal_exactly_when d k = (
  λ e. first_of 0 k (tests_of d) (sym (refusal_first d) ∙ e ∙ omega arith),
  λ f. refusal_first d ∙ of_first 0 k (tests_of d) f ∙ omega arith,
)

-- the number k + 1 is given exactly when its test holds and none of the lower ones
pub given_exactly_when : (d : List ℕ) {r : Checked} → Answers d r → (k : ℕ) → (number_of r ≡ k + 1) ↔ First (tests_of d) k
given_exactly_when d a k =
    (λ e. (refusal_exactly_when d k).0 (sym a.number ∙ e), λ f. a.number ∙ (refusal_exactly_when d k).1 f)

pub refusal_most : (d : List ℕ) → refusal_of d ≤ 5
unfolding refusal_of
refusal_most d = five (refused1 d) (refused2 d) (refused3 d) (refused4 d) (refused5 d)

-- none is given exactly when no test holds
none_from : (n : ℕ) (tests : List Bool) → number_from n tests ≡ 0 → (k : ℕ) → get_or tests k false ≡ false
unfolding number_from
none_from n [] e k = refl
none_from n (true ∷ tests) e k = absurd (omega arith)
none_from n (false ∷ tests) e zero = refl
none_from n (false ∷ tests) e (suc k) = none_from (n + 1) tests e k

from_none : (n : ℕ) (tests : List Bool) → ((k : ℕ) → get_or tests k false ≡ false) → number_from n tests ≡ 0
unfolding number_from
from_none n [] h = refl
from_none n (true ∷ tests) h = no (sym (h 0))
from_none n (false ∷ tests) h = from_none (n + 1) tests (λ k. h (suc k))

pub sound_exactly_when : (d : List ℕ) {r : Checked} → Answers d r → (number_of r ≡ 0) ↔ ((k : ℕ) → get_or (tests_of d) k false ≡ false)
sound_exactly_when d a = (
  λ e. none_from 0 (tests_of d) (sym (refusal_first d) ∙ sym a.number ∙ e),
  λ h. a.number ∙ refusal_first d ∙ from_none 0 (tests_of d) h,
)

-- equal lists of the five values, equal sizes
same_sizes : (s t : Sizes) → listed s ≡ listed t → s ≡ t
unfolding listed
same_sizes s t e =
    let w : s.weights ≡ t.weights = cc in
    let h : s.histories ≡ t.histories = cc in
    let p : s.positions ≡ t.positions = cc in
    let x : s.widest ≡ t.widest = cc in
    let y : s.depth ≡ t.depth = cc in
    let q : ◌≡◌ {A = Sizes}
    (record { weights = s.weights; histories = s.histories; positions = s.positions; widest = s.widest; depth = s.depth })
    (record { weights = t.weights; histories = t.histories; positions = t.positions; widest = t.widest; depth = t.depth }) = rw (w, h, p, x, y) in
    q

empty : (s : Sizes) → [] ≡ listed s → ⊥
unfolding listed
empty s e = let z : ◌≡◌ {A = ℕ} 0 1 = cc in omega arith

no_values : (b : Bool) (s : Sizes) → [] ≡ cond b (listed s) [] → b ≡ false
no_values false s e = refl
no_values true s e = absurd (empty s e)

sound_of : {s t : Sizes} → ◌≡◌ {A = Checked} (Ok s) (Ok t) → s ≡ t
sound_of e = cc

-- what the answer has to be
answer_by : (b : Bool) (n : ℕ) (s : Sizes) (r : Checked) → number_of r ≡ n → values_of r ≡ cond b (listed s) [] → r ≡ cond b (Ok s) (Err (named n))
unfolding values_of
answer_by true n s (Err m) e v = absurd (empty s v)
answer_by true n s (Ok t) e v = ap Ok (same_sizes t s v)
answer_by false n s (Err m) e v = ap Err (sym (named_number m) ∙ ap named e)
answer_by false n s (Ok t) e v = absurd (empty t (sym v))

pub answer_is : (d : List ℕ) {r : Checked} → Answers d r → r ≡ cond (eqb (refusal_of d) 0) (Ok (sizes_of d)) (Err (named (refusal_of d)))
answer_is d {r} a = answer_by (eqb (refusal_of d) 0) (refusal_of d) (sizes_of d) r a.number a.values

-- any two results that meet the contract agree
pub answers_agree : (d : List ℕ) {r s : Checked} → Answers d r → Answers d s → r ≡ s
answers_agree d a b = answer_is d a ∙ sym (answer_is d b)

-- where nothing is refused the values are the formulas, and where something is, there are none
pub sizes_are : (d : List ℕ) {r : Checked} → Answers d r → refusal_of d ≡ 0 → r ≡ Ok (sizes_of d)
sizes_are d a e = rw (eq-eqb (refusal_of d) 0 e) at (answer_is d a)

pub refusal_is : (d : List ℕ) {r : Checked} → Answers d r → (refusal_of d ≡ 0 → ⊥) → r ≡ Err (named (refusal_of d))
refusal_is d a ne = rw (ne_eqb (refusal_of d) 0 ne) at (answer_is d a)

-- and back: sizes are handed back of what is not refused, and they are the formulas
pub sound_only : (d : List ℕ) {s : Sizes} → Answers d (Ok s) → (refusal_of d ≡ 0) × (s ≡ sizes_of d)
sound_only d {s} a = let z = sym a.number in (z, sound_of (sizes_are d a z))

pub refused_only : (d : List ℕ) {refusal : Refusal} → Answers d (Err refusal) → (number refusal ≡ refusal_of d) × (eqb (refusal_of d) 0 ≡ false)
unfolding values_of
refused_only d a = (a.number, no_values (eqb (refusal_of d) 0) (sizes_of d) a.values)
