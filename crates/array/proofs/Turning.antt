-- A turn that meets its contract is a turn of the abstract stages: so the theorem on any order speaks of the array's turns. Assumes nothing.
use mathlib.Core.Path.{◌≡◌, refl, sym, ◌∙◌, ap}
use mathlib.Core.Bool.{cond}
use mathlib.Core.List.{List}
use mathlib.Core.Logic.{◌⊎◌, inl, inr, ⊎_elim}
use Prim.Native.Nat.{ℕ, zero, suc, ◌+◌, ◌-◌, ◌≤◌, ◌<◌}
use native.Mathlib.Nat.{add-zero, add-suc}
use native.Mathlib.Omega.{arith}
use borrow.Author.Tests.{lt-ltb, le-ltb, eq-eqb, ne_eqb}
use lib.Dec.{ltb, eqb}
use lib.ListN.{length}
use Rattle.lists.proofs.Nums.{le_or_lt}
use Rattle.ring.specs.Memory.{Memory}
use Rattle.turns.specs.Turn.{Turned, run_from}
use Rattle.description.specs.Numbers.{layer_count}
use Rattle.description.specs.Parts.{parts_of}
use Rattle.description.specs.Sizes.{histories_of, total}
use Rattle.array.specs.Stages.{Column, stage_count, next, out}
use Rattle.array.specs.Memories.{memories_of}
use Rattle.array.specs.Lent.{Given}
use Rattle.array.specs.Turn.{Changing, comes, between, past, entering, leaving, standing, TurnDone}
use Rattle.array.proofs.Places.{every_stage_kept}

-- a stage by itself does the same on columns that are the same
pub run_ext : {S A : Type 0} (nx : ℕ → S → A → S) (ou : ℕ → S → A → A) (k : ℕ) (s : S) (a : ℕ) (u v : ℕ → A) (c : ℕ)
    → ((i : ℕ) → i < c → u (a + i) ≡ v (a + i)) → run_from nx ou k s a u c ≡ run_from nx ou k s a v c
unfolding run_from
run_ext nx ou k s a u v zero h = refl
run_ext nx ou k s a u v (suc c) h = rw (run_ext nx ou k s a u v c (λ i l. h i (omega (arith, l))), h c (omega arith))

-- how far the stages are after stage k reached m
abbrev pub moved : (ℕ → ℕ) → ℕ → ℕ → ℕ → ℕ
moved reach k m j = cond (eqb j (suc k)) m (reach j)

module _ (b : Given) (n k from count : ℕ) (e e' : Changing) (reach : ℕ → ℕ)
    (in-range : k < stage_count b.description) (order : (j : ℕ) → j < stage_count b.description → reach (suc j) ≤ reach j)
    (all : reach 0 ≡ n) (here : reach (suc k) ≡ from) (allowed : from + count ≤ reach k)
    (long : total histories_of (parts_of b.description) ≤ length e.histories) (done : TurnDone b n k from count e e') where
  abbrev N : ℕ
  N = stage_count b.description

  -- later stages have reached no further
  down : (i d : ℕ) → i + d ≤ N → reach (i + d) ≤ reach i
  down i zero h = rw add-zero (omega arith)
  down i (suc d) h = rw add-suc (omega (arith, order (i + d) (omega (arith, h, add-suc i d)), down i d (omega (arith, h, add-suc i d))))

  down_to : (i j : ℕ) → i ≤ j → j ≤ N → reach j ≤ reach i
  down_to i j h l = let is : i + (j - i) ≡ j = omega (arith, h) in rw is at (down i (j - i) (omega (arith, is, l)))

  last_le : reach N ≤ from
  last_le = omega (arith, down_to (suc k) N in-range (omega arith), here)

  -- the columns that the turn takes come as they stand
  comes_as : (i : ℕ) → i < count → (standing b n e reach).col (from + i) ≡ entering b n e k (from + i)
  unfolding standing entering
  comes_as i h = rw (le-ltb (from + i) (reach N) (omega (arith, last_le))) (first k refl)
    where
      first : (j : ℕ) → k ≡ j → cond (ltb (from + i) (reach 1)) (between b n e (from + i)) (comes b n (from + i)) ≡ entering b n e k (from + i)
      first zero is =
          let l : reach 1 ≤ from + i = omega (arith, ap (λ (m : ℕ). reach (suc m)) is, here) in
          rw (le-ltb (from + i) (reach 1) l, is)
      first (suc l) is =
          let q = down_to 1 k (omega (arith, is)) (omega (arith, in-range)) in
          rw (lt-ltb (from + i) (reach 1) (omega (arith, q, allowed, h)), is)

  -- two cases: the last stage, or one before it
  last_or : (suc k ≡ N) ⊎ (suc k < N)
  last_or = ⊎_elim (λ (l : N ≤ suc k). inl (omega (arith, l, in-range))) (λ (l : suc k < N). inr l) (le_or_lt N (suc k))

  abbrev reach' : ℕ → ℕ
  reach' = moved reach k (from + count)

  same : reach' (suc k) ≡ from + count
  same = rw (eq-eqb (suc k) (suc k) refl)

  other : (j : ℕ) → (j ≡ suc k → ⊥) → reach' j ≡ reach j
  other j ne = rw (ne_eqb j (suc k) ne)

  -- how far the first and the last stage are then: only grown, and past the taken columns where it is their own turn
  first_is : (k ≡ 0 → reach' 1 ≡ from + count) × ((k ≡ 0 → ⊥) → reach' 1 ≡ reach 1)
  first_is = ((λ is. ap reach' (ap suc (sym is)) ∙ same), (λ ne. other 1 (λ q. ne (omega (arith, q)))))

  last_is : (suc k ≡ N → reach' N ≡ from + count) × (suc k < N → reach' N ≡ reach N)
  last_is = ((λ is. ap reach' (sym is) ∙ same), (λ l. other N (λ q. omega (arith, q, l))))

  zero_or : (k ≡ 0) ⊎ (0 < k)
  zero_or = ⊎_elim (λ (l : k ≤ 0). inl (omega (arith, l))) (λ (l : 0 < k). inr l) (le_or_lt k 0)

  -- a column in between, which is past neither the last stage nor still before the first
  between_is : (u : Changing) (r : ℕ → ℕ) (t : ℕ) → r N ≤ t → t < r 1 → (standing b n u r).col t ≡ between b n u t
  unfolding standing
  between_is u r t hi lo = rw (le-ltb t (r N) hi, lt-ltb t (r 1) lo)

  past_is : (u : Changing) (r : ℕ → ℕ) (t : ℕ) → t < r N → (standing b n u r).col t ≡ past b n u t
  unfolding standing
  past_is u r t h = rw (lt-ltb t (r N) h)

  comes_is : (u : Changing) (r : ℕ → ℕ) (t : ℕ) → r N ≤ t → r 1 ≤ t → (standing b n u r).col t ≡ comes b n t
  unfolding standing
  comes_is u r t hi lo = rw (le-ltb t (r N) hi, le-ltb t (r 1) lo)

  -- the columns that the turn took leave as they stand
  leaves_as : (i : ℕ) → i < count → (standing b n e' reach').col (from + i) ≡ leaving b n e' k (from + i)
  unfolding leaving
  leaves_as i h =
      ⊎_elim
      (λ (is : suc k ≡ N).
      past_is e' reach' (from + i) (omega (arith, last_is.0 is, h))
      ∙ rw (le-ltb k (layer_count b.description + 1) (omega (arith, is))))
      (λ (l : suc k < N).
      between_is e' reach' (from + i) (omega (arith, last_is.1 l, last_le)) (reaches i h)
      ∙ rw (lt-ltb k (layer_count b.description + 1) (omega (arith, l))))
      last_or
    where
      reaches : (i : ℕ) → i < count → from + i < reach' 1
      reaches i h =
          ⊎_elim
          (λ (is : k ≡ 0). omega (arith, first_is.0 is, h))
          (λ (l : 0 < k). omega (arith, first_is.1 (λ q. omega (arith, q, l)), down_to 1 k l (omega (arith, in-range)), allowed, h))
          zero_or

  -- columns before those taken: each has passed as many stages as it had
  before_same : (t : ℕ) → t < from → (standing b n e' reach').col t ≡ (standing b n e reach).col t
  before_same t h =
      let one : t < reach 1 = omega (arith, h, here, down_to 1 (suc k) (omega arith) in-range) in
      let one' : t < reach' 1 = ⊎_elim (λ (is : k ≡ 0). omega (arith, first_is.0 is, h)) (λ (l : 0 < k). omega (arith, first_is.1 (λ q. omega (arith, q, l)), one)) zero_or in
      ⊎_elim
      (λ (q : reach N ≤ t).
      let q' : reach' N ≤ t =
      ⊎_elim (λ (is : suc k ≡ N). absurd (omega (arith, ap reach is, here, q, h))) (λ (l : suc k < N). omega (arith, last_is.1 l, q)) last_or in
      between_is e' reach' t q' one' ∙ (done.before_kept t h).0 ∙ sym (between_is e reach t q one))
      (λ (q : t < reach N).
      let q' : t < reach' N =
      ⊎_elim (λ (is : suc k ≡ N). omega (arith, last_is.0 is, h)) (λ (l : suc k < N). omega (arith, last_is.1 l, q)) last_or in
      past_is e' reach' t q' ∙ (done.before_kept t h).1 ∙ sym (past_is e reach t q))
      (le_or_lt (reach N) t)

  -- columns after those taken
  after_same : (t : ℕ) → from + count ≤ t → (standing b n e' reach').col t ≡ (standing b n e reach).col t
  after_same t h =
      let q : reach N ≤ t = omega (arith, last_le, h) in
      let q' : reach' N ≤ t = ⊎_elim (λ (is : suc k ≡ N). omega (arith, last_is.0 is, h)) (λ (l : suc k < N). omega (arith, last_is.1 l, q)) last_or in
      ⊎_elim
      (λ (one : reach 1 ≤ t).
      let one' : reach' 1 ≤ t = ⊎_elim (λ (is : k ≡ 0). omega (arith, first_is.0 is, h)) (λ (l : 0 < k). omega (arith, first_is.1 (λ z. omega (arith, z, l)), one)) zero_or in
      comes_is e' reach' t q' one' ∙ sym (comes_is e reach t q one))
      (λ (one : t < reach 1).
      let one' : t < reach' 1 =
      ⊎_elim (λ (is : k ≡ 0). absurd (omega (arith, ap (λ (m : ℕ). reach (suc m)) is, here, one, h))) (λ (l : 0 < k). omega (arith, first_is.1 (λ z. omega (arith, z, l)), one)) zero_or in
      let in_block : t < n = omega (arith, one, all, down_to 0 1 (omega arith) (omega arith)) in
      between_is e' reach' t q' one' ∙ (done.after_kept t h in_block).0 ∙ sym (between_is e reach t q one))
      (le_or_lt (reach 1) t)

  abbrev nx : ℕ → List Memory → Column → List Memory
  nx = next b.description b.weights

  abbrev ou : ℕ → List Memory → Column → Column
  ou = out b.description b.weights

  -- the columns by how they stand, up to c of them
  as_stands : (c : ℕ) → c ≤ count
      → run_from nx ou k (memories_of b.description e.histories e.positions k) from (entering b n e k) c
      ≡ run_from nx ou k (memories_of b.description e.histories e.positions k) from (standing b n e reach).col c
  as_stands c h = run_ext nx ou k _ from (entering b n e k) (standing b n e reach).col c (λ i l. sym (comes_as i (omega (arith, h, l))))

  pub turned : Turned nx ou k count (standing b n e reach) (standing b n e' reach')
  unfolding standing
  turned = record {
    allowed = omega (arith, here, allowed);
    reached = same ∙ ap (λ (m : ℕ). m + count) (sym here);
    reach_kept = λ j ne. other j ne;
    state = rw here (done.memories ∙ as_stands count (omega arith));
    state_kept = λ j ne. every_stage_kept b.description k e.histories e'.histories e.positions e'.positions long done.histories_kept done.positions_kept j ne;
    column = λ i h. rw here
        (leaves_as i h ∙ done.columns i h
        ∙ ap (λ (s : List Memory). ou k s (entering b n e k (from + i))) (as_stands i (omega (arith, h)))
        ∙ ap (ou k (run_from nx ou k (memories_of b.description e.histories e.positions k) from (standing b n e reach).col i)) (sym (comes_as i h)));
    before_kept = λ t h. before_same t (omega (arith, h, here));
    after_kept = λ t h. after_same t (omega (arith, h, here));
  }
