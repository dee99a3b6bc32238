-- A block: one turn a stage, each over all columns. Assumes nothing.
use mathlib.Core.Path.{◌≡◌, refl}
use mathlib.Core.Bool.{cond}
use mathlib.Core.List.{List}
use mathlib.Core.Logic.{⊎_elim}
use Prim.Native.Nat.{ℕ, zero, suc, ◌+◌, ◌≤◌, ◌<◌}
use native.Mathlib.Omega.{arith}
use borrow.Author.Tests.{lt-ltb, le-ltb, eq-eqb, ne_eqb}
use lib.Dec.{ltb}
use lib.ListN.{length}
use Rattle.lists.proofs.Nums.{le_or_lt}
use Rattle.array.specs.Stages.{stage_count, first_part}
use Rattle.array.specs.Lent.{Lent, given}
use Rattle.array.specs.Turn.{Changing, changing, TurnDone, start_of}
use Rattle.array.proofs.Turning.{moved}
use Rattle.description.specs.Sizes.{place_at, place_of, total}
use Rattle.stage.specs.Turns.{Placed}
use Rattle.calls.specs.Fit.{Fit, Done}
use Rattle.calls.proofs.UnderWay.{UnderWay, at_first, begins_as, goes_on, ends}

-- the first k stages have taken all columns
abbrev pub first_done : ℕ → ℕ → ℕ → ℕ
first_done n k j = cond (ltb j (suc k)) n 0

-- the numbers of stage 0 start at the beginning
pub start_first : (d : List ℕ) → record { weights = 0; histories = 0; positions = 0 } ≡ start_of d 0
unfolding place_at place_of total first_part
start_first d = refl

module _ (b : Lent) {n size : ℕ} (fit : Fit b n size) where
  pub block_begins : UnderWay b n size (changing b) (first_done n 0)
  block_begins = begins_as b fit (first_done n 0) same
    where
      same : (j : ℕ) → at_first b n j ≡ first_done n 0 j
      same zero = refl
      same (suc j) = rw (le-ltb (suc j) 1 (omega arith))

  module _ {e e' : Changing} {k : ℕ} (way : UnderWay b n size e (first_done n k)) (in-range : k < stage_count b.description)
      (done : TurnDone (given b) n k 0 n e e') (placed : Placed b.description e'.positions)
      (head_long : length e'.head_out ≡ length e.head_out) (array_long : length e'.array_out ≡ length e.array_out) (scratch_long : length e'.scratch ≡ length e.scratch) where
    pub block_goes_on : UnderWay b n size e' (first_done n (k + 1))
    block_goes_on =
        goes_on b fit k 0 n way in-range
        (rw (le-ltb (suc k) (suc k) (omega arith)))
        (let q : first_done n k k ≡ n = rw (lt-ltb k (suc k) (omega arith)) in omega (arith, q))
        done placed head_long array_long scratch_long (first_done n (k + 1)) same
      where
        same : (j : ℕ) → moved (first_done n k) k (0 + n) j ≡ first_done n (k + 1) j
        same j =
            ⊎_elim
            (λ (l : suc j ≤ suc k). rw (ne_eqb j (suc k) (λ z. omega (arith, z, l)), lt-ltb j (suc k) l, lt-ltb j (suc (k + 1)) (omega (arith, l))))
            (λ (l : suc k < suc j). ⊎_elim
            (λ (l2 : j ≤ suc k). let z : j ≡ suc k = omega (arith, l, l2) in rw (eq-eqb j (suc k) z, lt-ltb j (suc (k + 1)) (omega (arith, l2))) (omega arith))
            (λ (l2 : suc k < j). rw (ne_eqb j (suc k) (λ z. omega (arith, z, l2)), le-ltb j (suc k) (omega (arith, l2)), le-ltb j (suc (k + 1)) (omega (arith, l2))))
            (le_or_lt j (suc k)))
            (le_or_lt (suc j) (suc k))

  pub block_ends : {e : Changing} {k : ℕ} → UnderWay b n size e (first_done n k) → k ≡ stage_count b.description → Done b n e
  block_ends {e} {k} way is = ends b fit way (λ j l. rw (lt-ltb j (suc k) (omega (arith, l, is))))
