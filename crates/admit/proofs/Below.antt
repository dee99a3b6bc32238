-- No position lies beyond its ring: what that says of each part by its number, and back. Assumes nothing.
use Rattle.std.specs.Prelude.{None, Some}
use mathlib.Core.Path.{◌≡◌, refl, subst}
use mathlib.Core.Bool.{false, not}
use mathlib.Core.List.{List, [], ◌∷◌}
use Prim.Native.Nat.{ℕ, zero, suc, ◌+◌, ◌≤◌, ◌<◌}
use native.Mathlib.Nat.{zero-add}
use native.Mathlib.Omega.{arith}
use lib.Dec.{ltb}
use lib.ListN.{get_or, length, take}
use borrow.Author.Tests.{lt-ltb, ltb-true, not-false}
use Rattle.shape.specs.declared.Shape.{Shape}
use Rattle.shape.specs.Counts.{ring_length}
use Rattle.description.specs.Parts.{parts_of}
use Rattle.description.specs.Sizes.{place_at, place_of, positions_of, total}
use Rattle.description.specs.Part.{Part}
use Rattle.description.proofs.Folds.{left_false, right_false}
use Rattle.description.proofs.Slots.{not_absent, shape_of}
use Rattle.array.specs.Refusals.{beyond}

-- the position of part i is the one after those of the parts before it
abbrev position_of : List Part → List ℕ → ℕ → ℕ
position_of ps places i = get_or places (total positions_of (take i ps)) 0

past_absent : (ps : List Part) (places : List ℕ) (i : ℕ) → position_of (None ∷ ps) places (suc i) ≡ position_of ps places i
unfolding total positions_of
past_absent ps places i = rw (zero-add (total positions_of (take i ps)))

past_there : (sh : Shape) (ps : List Part) (place : ℕ) (places : List ℕ) (i : ℕ)
    → position_of (Some sh ∷ ps) (place ∷ places) (suc i) ≡ position_of ps places i
unfolding total positions_of
past_there sh ps place places i =
    let e : 1 + total positions_of (take i ps) ≡ suc (total positions_of (take i ps)) = omega arith in rw e

all_below : (ps : List Part) (places : List ℕ) → beyond ps places ≡ false → total positions_of ps ≤ length places
    → (i : ℕ) (sh : Shape) → get_or ps i None ≡ Some sh → position_of ps places i < ring_length sh
unfolding beyond total positions_of
all_below [] places e le i sh q = not_absent q
all_below (None ∷ ps) places e le zero sh q = not_absent q
all_below (None ∷ ps) places e le (suc i) sh q = rw (past_absent ps places i) (all_below ps places e (omega arith) i sh q)
all_below (Some t ∷ ps) [] e le i sh q = absurd (omega arith)
all_below (Some t ∷ ps) (place ∷ places) e le zero sh q =
    subst (λ (s : Shape). place < ring_length s) (shape_of q)
    (ltb-true place (ring_length t) (not-false (ltb place (ring_length t)) (left_false (not (ltb place (ring_length t))) (beyond ps places) e)))
all_below (Some t ∷ ps) (place ∷ places) e le (suc i) sh q =
    rw (past_there t ps place places i)
    (all_below ps places (right_false (not (ltb place (ring_length t))) (beyond ps places) e) (omega arith) i sh q)

none-beyond : (ps : List Part) (places : List ℕ)
    → ((i : ℕ) (sh : Shape) → get_or ps i None ≡ Some sh → position_of ps places i < ring_length sh) → beyond ps places ≡ false
unfolding beyond total positions_of
none-beyond [] places h = refl
none-beyond (None ∷ ps) places h = none-beyond ps places (λ i sh q. rw (past_absent ps places i) at (h (suc i) sh q))
none-beyond (Some t ∷ ps) [] h = refl
none-beyond (Some t ∷ ps) (place ∷ places) h =
    rw (lt-ltb place (ring_length t) (h 0 t refl), none-beyond ps places (λ i sh q. rw (past_there t ps place places i) at (h (suc i) sh q)))

-- the same of a description's parts
module _ (d positions : List ℕ) where
  pub positions_below : beyond (parts_of d) positions ≡ false → length positions ≡ total positions_of (parts_of d)
      → (i : ℕ) (sh : Shape) → get_or (parts_of d) i None ≡ Some sh → get_or positions (place_at d i).positions 0 < ring_length sh
  unfolding place_at place_of
  positions_below e fits i sh q = all_below (parts_of d) positions e (omega arith) i sh q

  pub below_not_beyond : ((i : ℕ) (sh : Shape) → get_or (parts_of d) i None ≡ Some sh → get_or positions (place_at d i).positions 0 < ring_length sh)
      → beyond (parts_of d) positions ≡ false
  unfolding place_at place_of
  below_not_beyond h = none-beyond (parts_of d) positions h
