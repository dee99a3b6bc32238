-- Any turns in which no stage passes the one before come to the same as column by column. Assumes nothing.
use mathlib.Core.Path.{◌≡◌, sym, ◌∙◌}
use mathlib.Core.Logic.{◌⊎◌, inl, inr, ⊎_elim}
use Prim.Native.Nat.{ℕ, zero, suc, ◌+◌, ◌-◌, ◌≤◌, ◌<◌}
use native.Mathlib.Nat.{lt_of_not-le, eq-or-lt_of_le, not-suc-le-zero, add-suc, add-zero}
use native.Mathlib.Decide.{dec_le}
use native.Mathlib.Omega.{arith}
use Rattle.turns.specs.Grid.{through, stepped}
use Rattle.turns.specs.Turn.{run_from, Standing, Turned, Fresh}
use Rattle.turns.proofs.Numbered.{states_at, column_at}

le_or_lt : (a b : ℕ) → (a ≤ b) ⊎ (b < a)
le_or_lt a b = elim (dec_le a b) [ yes h ↦ inl h | no h ↦ inr (lt_of_not-le h) ]

same_or : (a b : ℕ) → (a ≡ b) ⊎ (a ≡ b → ⊥)
same_or a b = ⊎_elim
    (λ (l : a ≤ b). ⊎_elim (λ (e : a ≡ b). inl e) (λ (h : a < b). inr (λ e. omega arith)) (eq-or-lt_of_le l))
    (λ (l : b < a). inr (λ e. omega arith))
    (le_or_lt a b)

module _ {S A : Type 0} (next : ℕ → S → A → S) (out : ℕ → S → A → A) (init : ℕ → S) (x : ℕ → A) where
  abbrev M : Type 0
  M = Standing S A

  abbrev St : ℕ → ℕ → S
  St t k = states_at next out init x t k

  abbrev Col : ℕ → ℕ → A
  Col k t = column_at next out init x k t

  -- N stages; each has done the columns that it has reached, and each column is as the stages left it that it has passed
  pub record Good (N : ℕ) (b : M) : Type 0 where
    pub order : (k : ℕ) → k < N → b.reach (suc k) ≤ b.reach k
    pub states : (k : ℕ) → k < N → b.st k ≡ St (b.reach (suc k)) k
    pub columns : (k t : ℕ) → k ≤ N → t < b.reach k → (k < N → b.reach (suc k) ≤ t) → b.col t ≡ Col k t

  pub fresh_good : (N n : ℕ) (b : M) → Fresh init x n b → Good N b
  unfolding states_at column_at through stepped
  fresh_good N n b f = record {
    order = λ k h. omega (arith, f.none k);
    states = λ k h. rw (f.none k) (f.states k);
    columns = λ k t h l g. first k t l;
  }
    where
      first : (k t : ℕ) → t < b.reach k → b.col t ≡ Col k t
      first zero t l = f.columns t (omega (arith, l, f.all))
      first (suc k) t l = absurd (not-suc-le-zero (rw (f.none k) at l))

  -- a stage that goes on from where the recurrence has it, on the recurrence's columns, is the recurrence
  run_is : (k a c : ℕ) (s : S) (u : ℕ → A) → s ≡ St a k → ((i : ℕ) → i < c → u (a + i) ≡ Col k (a + i))
      → (i : ℕ) → i ≤ c → run_from next out k s a u i ≡ St (a + i) k
  unfolding run_from states_at column_at stepped
  run_is k a c s u e h zero l = rw add-zero e
  run_is k a c s u e h (suc i) l = rw (add-suc, run_is k a c s u e h i (omega (arith, l)), h i (omega (arith, l)))

  module _ (N k c : ℕ) (b e : M) (in-N : k < N) (g : Good N b) (t : Turned next out k c b e) where
    a : ℕ
    a = b.reach (suc k)

    comes : (i : ℕ) → i < c → b.col (b.reach (suc k) + i) ≡ Col k (b.reach (suc k) + i)
    comes i h = g.columns k (b.reach (suc k) + i) (omega (arith, in-N)) (omega (arith, h, t.allowed)) (λ l. omega arith)

    ran : (i : ℕ) → i ≤ c → run_from next out k (b.st k) (b.reach (suc k)) b.col i ≡ St (b.reach (suc k) + i) k
    ran i h = run_is k (b.reach (suc k)) c (b.st k) b.col (g.states k in-N) comes i h

    -- no reach has shrunk
    grown : (j : ℕ) → b.reach j ≤ e.reach j
    grown j = ⊎_elim
        (λ (is : j ≡ suc k). rw is (omega (arith, t.reached)))
        (λ (ne : j ≡ suc k → ⊥). omega (arith, t.reach_kept j ne))
        (same_or j (suc k))

    order' : (j : ℕ) → j < N → e.reach (suc j) ≤ e.reach j
    order' j h = ⊎_elim
        (λ (is : suc j ≡ suc k). let i : j ≡ k = omega (arith, is) in rw i (omega (arith, t.reached, t.allowed, grown k)))
        (λ (ne : suc j ≡ suc k → ⊥). omega (arith, t.reach_kept (suc j) ne, g.order j h, grown j))
        (same_or (suc j) (suc k))

    -- later stages have reached no further
    down : (i d : ℕ) → i + d ≤ N → e.reach (i + d) ≤ e.reach i
    down i zero h = rw add-zero (omega arith)
    down i (suc d) h = rw add-suc (omega (arith, order' (i + d) (omega (arith, h, add-suc i d)), down i d (omega (arith, h, add-suc i d))))

    down_to : (i j : ℕ) → i ≤ j → j ≤ N → e.reach j ≤ e.reach i
    down_to i j h l = let is : i + (j - i) ≡ j = omega (arith, h) in rw is at (down i (j - i) (omega (arith, is, l)))

    states' : (j : ℕ) → j < N → e.st j ≡ St (e.reach (suc j)) j
    states' j h = ⊎_elim
        (λ (is : j ≡ k). rw (is, t.reached, t.state) (ran c (omega arith)))
        (λ (ne : j ≡ k → ⊥). rw (t.state_kept j ne, t.reach_kept (suc j) (λ q. ne (omega (arith, q)))) (g.states j h))
        (same_or j k)

    -- a column that was not taken
    kept_col : (j i : ℕ) → j ≤ N → i < e.reach j → (j < N → e.reach (suc j) ≤ i) → (i < b.reach (suc k)) ⊎ (b.reach (suc k) + c ≤ i) → b.col i ≡ Col j i
    kept_col j i h l r o =
        g.columns j i h
        (⊎_elim
        (λ (is : j ≡ suc k). ⊎_elim
        (λ (q : i < b.reach (suc k)). rw is q)
        (λ (q : b.reach (suc k) + c ≤ i). absurd (let l2 : i < e.reach (suc k) = rw is at l in omega (arith, l2, q, t.reached)))
        o)
        (λ (ne : j ≡ suc k → ⊥). omega (arith, l, t.reach_kept j ne))
        (same_or j (suc k)))
        (λ q. omega (arith, r q, grown (suc j)))

    -- a column that was taken has passed stage k, and no other since
    taken_is : (j i : ℕ) → j ≤ N → i < e.reach j → (j < N → e.reach (suc j) ≤ i) → b.reach (suc k) ≤ i → i < b.reach (suc k) + c → j ≡ suc k
    taken_is j i h l r lo hi = ⊎_elim
        (λ (q : j ≤ k). absurd (let d = down_to (suc j) (suc k) (omega (arith, q)) in-N in omega (arith, d, t.reached, r (omega (arith, q, in-N)), hi)))
        (λ (q : k < j). ⊎_elim
        (λ (is : suc k ≡ j). sym is)
        (λ (q2 : suc k < j). absurd (
        let ne : j ≡ suc k → ⊥ = λ z. omega (arith, z, q2) in
        let d = older (suc k) j (omega (arith, q2)) h in
        omega (arith, d, t.reach_kept j ne, l, lo)))
        (eq-or-lt_of_le q))
        (le_or_lt j k)
      where
        older : (i j : ℕ) → i ≤ j → j ≤ N → b.reach j ≤ b.reach i
        older i j h l = let is : i + (j - i) ≡ j = omega (arith, h) in rw is at (go i (j - i) (omega (arith, is, l)))
          where
            go : (i d : ℕ) → i + d ≤ N → b.reach (i + d) ≤ b.reach i
            go i zero h = rw add-zero (omega arith)
            go i (suc d) h = rw add-suc (omega (arith, g.order (i + d) (omega (arith, h, add-suc i d)), go i d (omega (arith, h, add-suc i d))))

    -- a column that was taken is the recurrence's, one stage further
    done : (q : ℕ) → q < c → e.col (b.reach (suc k) + q) ≡ Col (suc k) (b.reach (suc k) + q)
    unfolding column_at through
    done q ql = t.column q ql ∙ rw (ran q (omega (arith, ql)), comes q ql)

    columns' : (j i : ℕ) → j ≤ N → i < e.reach j → (j < N → e.reach (suc j) ≤ i) → e.col i ≡ Col j i
    columns' j i h l r = ⊎_elim
        (λ (lo : b.reach (suc k) ≤ i). ⊎_elim
        (λ (hi : b.reach (suc k) + c ≤ i). t.after_kept i hi ∙ kept_col j i h l r (inr hi))
        (λ (hi : i < b.reach (suc k) + c).
        let q = i - b.reach (suc k) in
        let is : b.reach (suc k) + q ≡ i = omega (arith, lo) in
        let js = taken_is j i h l r lo hi in
        let ql : q < c = omega (arith, is, hi) in
        rw js (rw is at (done q ql)))
        (le_or_lt (b.reach (suc k) + c) i))
        (λ (lo : i < b.reach (suc k)). t.before_kept i lo ∙ kept_col j i h l r (inl lo))
        (le_or_lt (b.reach (suc k)) i)

    pub turn_good : Good N e
    turn_good = record { order = order'; states = states'; columns = columns' }

  -- a plan: turn i is of stage ks i by cs i columns, m i is how all stands before it
  pub plan_good : (N n : ℕ) (ks cs : ℕ → ℕ) (m : ℕ → M) → Fresh init x n (m 0) → (turns : ℕ)
      → ((i : ℕ) → i < turns → (ks i < N) × Turned next out (ks i) (cs i) (m i) (m (suc i))) → Good N (m turns)
  plan_good N n ks cs m f zero h = fresh_good N n (m 0) f
  plan_good N n ks cs m f (suc i) h =
      turn_good N (ks i) (cs i) (m i) (m (suc i)) (h i (omega arith)).0 (plan_good N n ks cs m f i (λ j l. h j (omega (arith, l)))) (h i (omega arith)).1

  -- when all stages stand at n, all is as after n columns one by one
  pub record Ended (N n : ℕ) (b : M) : Type 0 where
    pub states : (k : ℕ) → k < N → b.st k ≡ St n k
    pub columns : (t : ℕ) → t < n → b.col t ≡ Col N t

  pub plan_ends : (N n : ℕ) (b : M) → Good N b → ((k : ℕ) → k ≤ N → b.reach k ≡ n) → Ended N n b
  plan_ends N n b g h = record {
    states = λ k l. rw (sym (h (suc k) l)) (g.states k l);
    columns = λ t l. g.columns N t (omega arith) (rw (h N (omega arith)) l) (λ q. absurd (no_lt N q));
  }
    where
      no_lt : (n : ℕ) → n < n → ⊥
      no_lt n h = omega arith
