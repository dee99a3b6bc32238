-- Laws on places, for every ring length. Assumes nothing.
use mathlib.Core.Path.{◌≡◌, ◌∙◌}
use mathlib.Core.Logic.{⊎_elim}
use Prim.Native.Nat.{ℕ, suc, ◌+◌, ◌-◌, ◌≤◌, ◌<◌}
use native.Mathlib.Omega.{arith}
use borrow.Author.Tests.{lt-ltb, le-ltb, le-leb, lt-leb}
use Rattle.lists.proofs.Nums.{le_or_lt}
use Rattle.ring.specs.Place.{next_place, place_back}

module _ (len at : ℕ) where
  pub next_on : at + 1 < len → next_place len at ≡ at + 1
  unfolding next_place
  next_on h = rw (lt-ltb _ _ h)

  pub next_zero : len ≤ at + 1 → next_place len at ≡ 0
  unfolding next_place
  next_zero h = rw (le-ltb _ _ h)

  pub back_in : (b : ℕ) → b ≤ at → place_back len at b ≡ at - b
  unfolding place_back
  back_in b h = rw (le-leb _ _ h)

  pub back_round : (b : ℕ) → at < b → place_back len at b ≡ len - (b - at)
  unfolding place_back
  back_round b h = rw (lt-leb _ _ h)

pub next_lt : (len at : ℕ) → at < len → next_place len at < len
next_lt len at h = ⊎_elim (λ l. rw (next_zero len at l) (omega arith)) (λ l. rw (next_on len at l) l) (le_or_lt len (at + 1))

pub back_lt : (len at b : ℕ) → at < len → b < len → place_back len at b < len
back_lt len at b h k = ⊎_elim (λ l. rw (back_in len at b l) (omega arith)) (λ l. rw (back_round len at b l) (omega arith)) (le_or_lt b at)

pub back_none : (len at : ℕ) → place_back len at 0 ≡ at
back_none len at = back_in len at 0 (omega arith) ∙ omega arith

-- one more back from the next place is as many back from this place
pub back_next : (len at b : ℕ) → at < len → suc b < len → place_back len (next_place len at) (suc b) ≡ place_back len at b
back_next len at b h k =
    ⊎_elim
    (λ (l : len ≤ at + 1).
    rw (next_zero len at l) (rw (back_round len 0 (suc b) (omega arith)) (rw (back_in len at b (omega arith)) (omega arith))))
    (λ (l : at + 1 < len).
    rw (next_on len at l)
    (⊎_elim
    (λ (i : b ≤ at). rw (back_in len (at + 1) (suc b) (omega arith)) (rw (back_in len at b i) (omega arith)))
    (λ (i : at < b). rw (back_round len (at + 1) (suc b) (omega arith)) (rw (back_round len at b i) (omega arith)))
    (le_or_lt b at)))
    (le_or_lt len (at + 1))

-- and is not the next place itself
pub back_not_next : (len at b : ℕ) → at < len → suc b < len → place_back len at b ≡ next_place len at → ⊥
back_not_next len at b h k e =
    ⊎_elim
    (λ (l : len ≤ at + 1).
    let n = next_zero len at l in
    let q = back_in len at b (omega arith) in
    omega arith)
    (λ (l : at + 1 < len).
    let n = next_on len at l in
    ⊎_elim
    (λ (i : b ≤ at). let q = back_in len at b i in omega arith)
    (λ (i : at < b). let q = back_round len at b i in omega arith)
    (le_or_lt b at))
    (le_or_lt len (at + 1))

-- the next place after the one that is one more back: how a loop reads the past forward
pub next_back : (len at b : ℕ) → at < len → suc b < len → next_place len (place_back len at (suc b)) ≡ place_back len at b
next_back len at b h k =
    ⊎_elim
    (λ (i : suc b ≤ at).
    rw (back_in len at (suc b) i) (rw (back_in len at b (omega arith)) (next_on len (at - suc b) (omega arith) ∙ omega arith)))
    (λ (i : at < suc b).
    rw (back_round len at (suc b) i)
    (⊎_elim
    (λ (j : b ≤ at). rw (back_in len at b j) (next_zero len (len - (suc b - at)) (omega arith) ∙ omega arith))
    (λ (j : at < b). rw (back_round len at b j) (next_on len (len - (suc b - at)) (omega arith) ∙ omega arith))
    (le_or_lt b at)))
    (le_or_lt (suc b) at)
