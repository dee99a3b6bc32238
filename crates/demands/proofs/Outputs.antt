-- The columns that an accepted call hands out, read from its output buffers, are the recurrence's columns. Assumes nothing.
use mathlib.Core.Path.{◌≡◌, refl, sym, ◌∙◌, ap}
use mathlib.Core.Bool.{Bool, true, false, cond}
use mathlib.Core.List.{List}
use Prim.Native.Nat.{ℕ, zero, suc, ◌+◌, ◌*◌, ◌/◌, ◌%◌, ◌<◌}
use native.Mathlib.Omega.{arith}
use lib.Dec.{ltb}
use lib.ListN.{length, get_or}
use lib.Ieee.{Float, nan}
use borrow.Author.Tests.{le-ltb}
use Rattle.lists.specs.Tab.{at, tab}
use Rattle.lists.proofs.Nums.{cell_lt, cell_div, cell_mod}
use Rattle.lists.proofs.Tab.{length-tab, at-tab, is_tab}
use Rattle.ring.specs.Memory.{Memory}
use Rattle.turns.specs.Grid.{through}
use Rattle.description.specs.Numbers.{layer_count}
use Rattle.description.specs.Records.{array_of}
use Rattle.array.specs.Stages.{Column, stage_count, next, out, rechannelled, layered, headed}
use Rattle.array.specs.Memories.{memories_of}
use Rattle.array.specs.Planar.{column_in, columns_in, block_of}
use Rattle.array.specs.Lent.{Lent}
use Rattle.array.specs.Calls.{no_column, columns_from, brought, head_played, array_played}
use Rattle.demands.specs.Calls.{Call, count_of, handed}
use Rattle.demands.proofs.Below.{columns_length, columns_each}

-- a column of a block of columns
pub column_taken : (w n : ℕ) (f : ℕ → List Float) (t : ℕ) → t < n → length (f t) ≡ w → column_in w n (block_of w n f) t ≡ f t
unfolding column_in block_of
column_taken w n f t h long =
    sym (is_tab nan (f t) w (λ c. at (tab (w * n) (λ i. at (f (i % n)) (i / n))) (c * n + t)) long (λ c l. sym (number c l)))
  where
    number : (c : ℕ) → c < w → at (tab (w * n) (λ i. at (f (i % n)) (i / n))) (c * n + t) ≡ at (f t) c
    number c l = rw (at-tab nan (w * n) (λ i. at (f (i % n)) (i / n)) (c * n + t) (cell_lt c w n t l h), cell_mod c n t h, cell_div c n t h)

module _ (d : List ℕ) (w : List Float) where
  abbrev past : (ℕ → List Memory) → Column → ℕ → Column
  past st v k = through (next d w) (out d w) st v k

  signal_by : (b : Bool) (l : ℕ) (s : List Memory) (v : Column) → length v.signal ≡ (array_of d).channels
      → length (cond b (layered d w l s v) (headed d w s v)).signal ≡ (array_of d).channels
  unfolding layered headed
  signal_by true l s v h = length-tab (array_of d).channels _
  signal_by false l s v h = h

  -- the rechannel gives a signal of channels numbers, and every stage after it leaves it so
  signal_long : (st : ℕ → List Memory) (v : Column) (k : ℕ) → length (past st v (suc k)).signal ≡ (array_of d).channels
  unfolding through out rechannelled
  signal_long st v zero = length-tab (array_of d).channels _
  signal_long st v (suc k) = signal_by (ltb k (layer_count d)) k (st (suc k)) (past st v (suc k)) (signal_long st v k)

  -- the head rechannel gives head size numbers
  head_long : (st : ℕ → List Memory) (v : Column) → length (past st v (suc (suc (layer_count d)))).accumulator ≡ (array_of d).head_size
  unfolding through out headed
  head_long st v = rw (le-ltb (layer_count d) (layer_count d) (omega arith)) (length-tab (array_of d).head_size _)

  condition_by : (b : Bool) (l : ℕ) (s : List Memory) (v : Column) → (cond b (layered d w l s v) (headed d w s v)).condition ≡ v.condition
  unfolding layered headed
  condition_by true l s v = refl
  condition_by false l s v = refl

  -- the condition travels along
  condition_kept : (st : ℕ → List Memory) (v : Column) (k : ℕ) → (past st v k).condition ≡ v.condition
  unfolding through out rechannelled
  condition_kept st v zero = refl
  condition_kept st v (suc zero) = refl
  condition_kept st v (suc (suc k)) = condition_by (ltb k (layer_count d)) k (st (suc k)) (past st v (suc k)) ∙ condition_kept st v (suc k)

  -- what all of this says of a column that came as v and leaves as u
  pub record Leaves (v u : Column) : Type 0 where
    pub signal_is : length u.signal ≡ (array_of d).channels
    pub head_is : length u.accumulator ≡ (array_of d).head_size
    pub condition_is : u.condition ≡ v.condition

  leaves : (st : ℕ → List Memory) (v : Column) → Leaves v (past st v (stage_count d))
  leaves st v =
      let two : layer_count d + 2 ≡ suc (suc (layer_count d)) = omega arith in
      rw two (record { signal_is = signal_long st v (suc (layer_count d)); head_is = head_long st v; condition_is = condition_kept st v (suc (suc (layer_count d))) })

module _ (b : Lent) (n : ℕ) where
  brought_long : length (brought b n) ≡ n
  unfolding brought columns_in
  brought_long = length-tab n _

  from_long : length (columns_from b (brought b n)) ≡ n
  unfolding columns_from
  from_long = columns_length _ _ (stage_count b.description) (brought b n) _ ∙ brought_long

  column_leaves : (t : ℕ) → t < n → Leaves b.description b.weights (get_or (brought b n) t no_column) (get_or (columns_from b (brought b n)) t no_column)
  unfolding columns_from
  column_leaves t h =
      columns_each (next b.description b.weights) (out b.description b.weights) (stage_count b.description) (Leaves b.description b.weights) no_column
      (leaves b.description b.weights) (brought b n) (memories_of b.description b.histories b.positions) t (rw brought_long h)

  condition_came : (t : ℕ) → t < n → (get_or (brought b n) t no_column).condition ≡ column_in (array_of b.description).condition n b.condition t
  unfolding brought columns_in
  condition_came t h = ap (λ (v : Column). v.condition) (at-tab no_column n _ t h)

  signal_out : (t : ℕ) → t < n → column_in (array_of b.description).channels n (array_played b n) t ≡ (get_or (columns_from b (brought b n)) t no_column).signal
  unfolding array_played
  signal_out t h = column_taken _ n (λ t. (get_or (columns_from b (brought b n)) t no_column).signal) t h (column_leaves t h).signal_is

  head_out : (t : ℕ) → t < n → column_in (array_of b.description).head_size n (head_played b n) t ≡ (get_or (columns_from b (brought b n)) t no_column).accumulator
  unfolding head_played
  head_out t h = column_taken _ n (λ t. (get_or (columns_from b (brought b n)) t no_column).accumulator) t h (column_leaves t h).head_is

-- what a call whose outputs are the recurrence's hands out
pub handed_are : (c : Call) → c.left.array_out ≡ array_played c.lent (count_of c.kind) → c.left.head_out ≡ head_played c.lent (count_of c.kind)
    → handed c ≡ columns_from c.lent (brought c.lent (count_of c.kind))
unfolding handed
handed_are c array_is head_is =
    let b = c.lent in
    let n = count_of c.kind in
    sym (is_tab no_column (columns_from b (brought b n)) n _ (from_long b n) (λ t h. sym (one t h)))
  where
    one : (t : ℕ) → t < count_of c.kind
        → ◌≡◌ {A = Column} (record {
          signal = column_in (array_of c.lent.description).channels (count_of c.kind) c.left.array_out t;
          accumulator = column_in (array_of c.lent.description).head_size (count_of c.kind) c.left.head_out t;
          condition = column_in (array_of c.lent.description).condition (count_of c.kind) c.lent.condition t;
        }) (get_or (columns_from c.lent (brought c.lent (count_of c.kind))) t no_column)
    one t h = rw (
      array_is,
      head_is,
      signal_out c.lent (count_of c.kind) t h,
      head_out c.lent (count_of c.kind) t h,
      ← condition_came c.lent (count_of c.kind) t h,
      ← (column_leaves c.lent (count_of c.kind) t h).condition_is,
    )
