-- The recurrence over stages below N hangs on what these stages remember and on nothing else; and what holds of every step holds of every column.
-- Any stages. Assumes nothing.
use mathlib.Core.Path.{◌≡◌, refl, ap}
use mathlib.Core.List.{List, [], ◌∷◌}
use Prim.Native.Nat.{ℕ, zero, suc, ◌≤◌, ◌<◌}
use native.Mathlib.Nat.{not-suc-le-zero, le_of_suc-le-suc}
use native.Mathlib.Omega.{arith}
use lib.ListN.{length, get_or}
use Rattle.turns.specs.Grid.{through, stepped, states_after, columns_after}

module _ {S A : Type 0} (next : ℕ → S → A → S) (out : ℕ → S → A → A) (N : ℕ) where
  -- the stages below N remember the same
  abbrev pub Same : (ℕ → S) → (ℕ → S) → Type 0
  Same st st' = (k : ℕ) → k < N → st k ≡ st' k

  through_same : (st st' : ℕ → S) → Same st st' → (v : A) (k : ℕ) → k ≤ N → through next out st v k ≡ through next out st' v k
  unfolding through
  through_same st st' h v zero l = refl
  through_same st st' h v (suc k) l = rw (h k l, through_same st st' h v k (omega arith))

  stepped_same : (st st' : ℕ → S) → Same st st' → (v : A) → Same (stepped next out st v) (stepped next out st' v)
  unfolding stepped
  stepped_same st st' h v k l = rw (h k l, through_same st st' h v k (omega arith))

  pub states_same : (vs : List A) (st st' : ℕ → S) → Same st st' → Same (states_after next out st vs) (states_after next out st' vs)
  unfolding states_after
  states_same [] st st' h = h
  states_same (v ∷ vs) st st' h = states_same vs (stepped next out st v) (stepped next out st' v) (stepped_same st st' h v)

  pub columns_same : (vs : List A) (st st' : ℕ → S) → Same st st' → columns_after next out N st vs ≡ columns_after next out N st' vs
  unfolding columns_after
  columns_same [] st st' h = refl
  columns_same (v ∷ vs) st st' h =
      rw (through_same st st' h v N (omega arith), columns_same vs (stepped next out st v) (stepped next out st' v) (stepped_same st st' h v))

  -- what each step of a stage keeps, the columns keep
  pub states_keep : (P : ℕ → S → Type 0) → ((k : ℕ) → k < N → (s : S) (v : A) → P k s → P k (next k s v)) → (vs : List A) (st : ℕ → S)
      → ((k : ℕ) → k < N → P k (st k)) → (k : ℕ) → k < N → P k (states_after next out st vs k)
  unfolding states_after stepped
  states_keep P step [] st h = h
  states_keep P step (v ∷ vs) st h = states_keep P step vs (stepped next out st v) (λ k l. step k l (st k) (through next out st v k) (h k l))

  pub columns_length : (vs : List A) (st : ℕ → S) → length (columns_after next out N st vs) ≡ length vs
  unfolding columns_after
  columns_length [] st = refl
  columns_length (v ∷ vs) st = ap suc (columns_length vs (stepped next out st v))

  -- what holds between a column as it comes and as it leaves
  pub columns_each : (R : A → A → Type 0) (none : A) → ((st : ℕ → S) (v : A) → R v (through next out st v N)) → (vs : List A) (st : ℕ → S) (t : ℕ)
      → t < length vs → R (get_or vs t none) (get_or (columns_after next out N st vs) t none)
  unfolding columns_after
  columns_each R none one [] st t h = absurd (not-suc-le-zero h)
  columns_each R none one (v ∷ vs) st zero h = one st v
  columns_each R none one (v ∷ vs) st (suc t) h = columns_each R none one vs (stepped next out st v) t (le_of_suc-le-suc h)
