-- What a convolution does to work and to its memory.
use Rattle.std.specs.Prelude.{◌≡◌, List, ℕ, suc, ◌+◌, ◌*◌, ◌<◌, ◌≤◌, ◌%◌, Float}
use Rattle.std.specs.Float.{nan}
use Rattle.lists.specs.Tab.{at}
use Rattle.lists.specs.Region.{Apart, Beside, Holds, Strip, Free}
use Rattle.ring.specs.declared.Memory.{Memory as Holder}
use Rattle.ring.specs.Memory.{Memory, past, seen}
use Rattle.ring.specs.Held.{held}
use Rattle.shape.specs.declared.Shape.{Shape}
use Rattle.shape.specs.Counts.{ring_length}
use Rattle.column.specs.declared.Filter.{Filter}
use Rattle.column.specs.Recurrence.{tap_from, taps_from, output, remembered}
use Rattle.conv.specs.declared.Block.{Block}

-- a whole block, from memory s to s', whichever columns f the region at x held: each column pushed, then its outputs taken. All other work but the
-- region at rows is as it was
pub record Convolved (sh : Shape) (weights : List Float) (m x out rows : ℕ) (work : List Float) (s : Memory) (work' : List Float) (s' : Memory) : Type 0 where
  pub outs : (f : ℕ → ℕ → Float) → Holds x sh.ins m (λ c t. f t c) work → Holds out sh.outs m (λ o t. output sh weights (remembered sh f s (suc t)) o) work'
  pub memory : (f : ℕ → ℕ → Float) → Holds x sh.ins m (λ c t. f t c) work → s' ≡ remembered sh f s m
  pub others : Free nan (λ i. Apart out (sh.outs * m) i 1 × Apart rows (sh.ins * m) i 1) work work'

-- ---- within a block: n of its columns, in rows of m

-- the same of these columns alone
pub record Played (sh : Shape) (weights : List Float) (m n x out rows : ℕ) (work : List Float) (s : Memory) (work' : List Float) (s' : Memory) : Type 0 where
  pub outs : (f : ℕ → ℕ → Float) → Strip x m sh.ins n (λ c t. f t c) work → Strip out m sh.outs n (λ o t. output sh weights (remembered sh f s (suc t)) o) work'
  pub memory : (f : ℕ → ℕ → Float) → Strip x m sh.ins n (λ c t. f t c) work → s' ≡ remembered sh f s n
  pub others : Free nan (λ i. Beside out m sh.outs n i × Apart rows (sh.ins * n) i 1) work work'

-- what tap k of column t sees: v channel b
abbrev pub sight : Shape → ℕ → ℕ → List Float → Memory → ℕ → ℕ → ℕ → Float
sight sh m x work s t c b = seen (λ i. at work (x + c * m + i)) (past sh.ins (ring_length sh) s c) b t

-- tap k was added to the sums at out
pub record Tapped (sh : Shape) (weights : List Float) (m n x out rows : ℕ) (s : Memory) (work : List Float) (k : ℕ) (work' : List Float) : Type 0 where
  pub outs : Strip out m sh.outs n (λ o t. tap_from sh weights (sight sh m x work s t) o k (at work (out + o * m + t))) work'
  pub others : Free nan (λ i. Beside out m sh.outs n i × Apart rows (sh.ins * n) i 1) work work'

-- taps 0 .. k - 1 were
pub record AllTapped (sh : Shape) (weights : List Float) (m n x out rows : ℕ) (s : Memory) (work : List Float) (k : ℕ) (work' : List Float) : Type 0 where
  pub outs : Strip out m sh.outs n (λ o t. taps_from sh weights (sight sh m x work s t) o k (at work (out + o * m + t))) work'
  pub others : Free nan (λ i. Beside out m sh.outs n i × Apart rows (sh.ins * n) i 1) work work'

-- how many columns of a rest are played next: one, or whole sixteens
pub record Cut (left n : ℕ) : Type 0 where
  pub some : 0 < n
  pub within : n ≤ left
  pub whole : (n ≡ 1 → ⊥) → n % 16 ≡ 0

-- ---- the same of the code's structs

abbrev pub Convolves : Filter → Block → List Float → Holder → List Float → Holder → Type 0
Convolves f b work s work' s' = Convolved f.shape f.weights.now b.columns b.x b.out b.rows work (held s) work' (held s')

-- of a part of a block whose rows are `stride` apart
abbrev pub Plays : Filter → Block → ℕ → List Float → Holder → List Float → Holder → Type 0
Plays f b stride work s work' s' = Played f.shape f.weights.now stride b.columns b.x b.out b.rows work (held s) work' (held s')
