-- One turn: a stage takes its next columns, and nothing else changes. Document 01, 'Plans'.
use Rattle.std.specs.Prelude.{◌≡◌, ℕ, zero, suc, ◌+◌, ◌≤◌, ◌<◌}

-- how things stand between two turns: what each stage remembers, each column as it is now, and how far each stage has reached. reach (suc k) columns
-- have left stage k, and reach 0 is how many there are
pub record Standing (S A : Type 0) : Type 0 where
  pub st : ℕ → S
  pub col : ℕ → A
  pub reach : ℕ → ℕ

module _ {S A : Type 0} (next : ℕ → S → A → S) (out : ℕ → S → A → A) where
  -- a stage by itself: what it remembers after i columns of u from column a on
  unfoldable pub run_from : ℕ → S → ℕ → (ℕ → A) → ℕ → S
  run_from k s a u zero = s
  run_from k s a u (suc i) = next k (run_from k s a u i) (u (a + i))

  -- stage k takes c columns more: from how things stood, b, to how they stand then, e
  pub record Turned (k c : ℕ) (b e : Standing S A) : Type 0 where
    pub allowed : b.reach (suc k) + c ≤ b.reach k
    pub reached : e.reach (suc k) ≡ b.reach (suc k) + c
    pub reach_kept : (j : ℕ) → (j ≡ suc k → ⊥) → e.reach j ≡ b.reach j
    pub state : e.st k ≡ run_from k (b.st k) (b.reach (suc k)) b.col c
    pub state_kept : (j : ℕ) → (j ≡ k → ⊥) → e.st j ≡ b.st j
    pub column : (i : ℕ) → i < c → e.col (b.reach (suc k) + i)
        ≡ out k (run_from k (b.st k) (b.reach (suc k)) b.col i) (b.col (b.reach (suc k) + i))
    pub before_kept : (t : ℕ) → t < b.reach (suc k) → e.col t ≡ b.col t
    pub after_kept : (t : ℕ) → b.reach (suc k) + c ≤ t → e.col t ≡ b.col t

-- where all begins: n columns of x, none taken, the stages as init says
pub record Fresh {S A : Type 0} (init : ℕ → S) (x : ℕ → A) (n : ℕ) (b : Standing S A) : Type 0 where
  pub states : (k : ℕ) → b.st k ≡ init k
  pub columns : (t : ℕ) → t < n → b.col t ≡ x t
  pub all : b.reach 0 ≡ n
  pub none : (k : ℕ) → b.reach (suc k) ≡ 0
