-- When all stages stand at n, the buffers hold what the recurrence over the call's columns, one at a time, leaves. Assumes nothing.
use mathlib.Core.Path.{◌≡◌, refl, sym, ◌∙◌, ap}
use mathlib.Core.List.{List, [], ◌∷◌, ◌++◌}
use Prim.Native.Nat.{ℕ, zero, suc, ◌+◌, ◌*◌, ◌/◌, ◌%◌, ◌<◌}
use native.Mathlib.Nat.{add-zero, div-add-mod', mod-lt}
use native.Mathlib.Numerals.{add-one}
use borrow.Author.Tests.{lt-ltb}
use lib.ListN.{length, get_or}
use lib.Ieee.{Float, nan}
use Rattle.lists.specs.Tab.{at, tab}
use Rattle.lists.proofs.Nums.{div_lt, pos_of_lt}
use Rattle.lists.proofs.Tab.{at-tab, is_tab}
use Rattle.ring.specs.Memory.{Memory}
use Rattle.turns.proofs.Numbered.{up_to, listed, states_at, column_at, states_are, columns_are}
use Rattle.turns.proofs.AnyOrder.{Ended}
use Rattle.description.specs.Records.{array_of}
use Rattle.description.specs.Parts.{parts_of}
use Rattle.description.specs.Sizes.{histories_of, positions_of, total}
use Rattle.array.specs.Stages.{Column, stage_count, next, out}
use Rattle.array.specs.Memories.{memories_of}
use Rattle.array.specs.Planar.{column_in, columns_in, block_of}
use Rattle.array.specs.Lent.{Lent, given, Given}
use Rattle.array.specs.Calls.{no_column, states_from, columns_from, brought, histories_played, positions_played, head_played, array_played}
use Rattle.array.specs.Turn.{Changing, comes, past, standing}
use Rattle.array.proofs.Views.{tab_join, histories_are, positions_are, histories_ext, positions_ext}

-- a block is the block of its columns
pub block_is : (w n : ℕ) (buffer : List Float) (column : ℕ → List Float) → length buffer ≡ w * n → ((t : ℕ) → t < n → column_in w n buffer t ≡ column t)
    → buffer ≡ block_of w n column
unfolding block_of column_in
block_is w n buffer column long h =
    is_tab nan buffer (w * n) (λ i. at (column (i % n)) (i / n)) long (λ i l.
    let some : 0 < n = pos_of_lt i w n l in
    let c : i / n < w = div_lt i w n l some in
    let is : i / n * n + i % n ≡ i = div-add-mod' i n in
    ap (at buffer) (sym is)
    ∙ sym (at-tab nan w (λ c. at buffer (c * n + i % n)) (i / n) c)
    ∙ ap (λ (l : List Float). at l (i / n)) (h (i % n) (mod-lt i some)))

-- a table grown at its end
tab_more : {A : Type 0} (none : A) (f : ℕ → A) (n : ℕ) → tab (suc n) f ≡ tab n f ++ f n ∷ []
unfolding tab
tab_more none f n =
    let e : n + 1 ≡ suc n = add-one n in
    ap (λ (m : ℕ). tab m f) (sym e) ∙ tab_join none n 1 f ∙ ap (λ (m : ℕ). tab n f ++ f m ∷ []) (add-zero n)

module _ {S A : Type 0} (none : A) (next : ℕ → S → A → S) (out : ℕ → S → A → A) (init : ℕ → S) (x : ℕ → A) where
  pub up_to_is : (n : ℕ) → tab n x ≡ up_to next out init x n
  unfolding tab
  up_to_is zero = refl
  up_to_is (suc n) = tab_more none x n ∙ ap (λ l. l ++ x n ∷ []) (up_to_is n)

  pub listed_is : (f : ℕ → A) (n : ℕ) → tab n f ≡ listed next out init x f n
  unfolding tab
  listed_is f zero = refl
  listed_is f (suc n) = tab_more none f n ∙ ap (λ l. l ++ f n ∷ []) (listed_is f n)

-- a column that has left the last stage
out_there : (b : Given) (n : ℕ) (e : Changing) (reach : ℕ → ℕ) (t : ℕ) → t < reach (stage_count b.description) → (standing b n e reach).col t ≡ past b n e t
unfolding standing
out_there b n e reach t h = rw (lt-ltb t (reach (stage_count b.description)) h)

module _ (b : Lent) (n : ℕ) (e : Changing) (reach : ℕ → ℕ) where
  abbrev nx : ℕ → List Memory → Column → List Memory
  nx = next b.description b.weights

  abbrev ou : ℕ → List Memory → Column → Column
  ou = out b.description b.weights

  abbrev init : ℕ → List Memory
  init = memories_of b.description b.histories b.positions

  brought_is : brought b n ≡ up_to nx ou init (comes (given b) n) n
  unfolding brought columns_in comes
  brought_is = up_to_is no_column nx ou init (comes (given b) n) n

  states_is : states_from b (brought b n) ≡ states_at nx ou init (comes (given b) n) n
  unfolding states_from
  states_is = rw brought_is (states_are nx ou init (comes (given b) n) n)

  columns_is : columns_from b (brought b n) ≡ tab n (column_at nx ou init (comes (given b) n) (stage_count b.description))
  unfolding columns_from
  columns_is = rw brought_is (columns_are nx ou init (comes (given b) n) (stage_count b.description) n ∙ sym (listed_is no_column nx ou init (comes (given b) n) _ n))

  column_is : (t : ℕ) → t < n → get_or (columns_from b (brought b n)) t no_column ≡ column_at nx ou init (comes (given b) n) (stage_count b.description) t
  column_is t h = rw columns_is (at-tab no_column n _ t h)

  module _ (done : reach (stage_count b.description) ≡ n) (ended : Ended nx ou init (comes (given b) n) (stage_count b.description) n (standing (given b) n e reach)) where
    -- the columns past all stages are what the output buffers hold
    past_is : (t : ℕ) → t < n → past (given b) n e t ≡ get_or (columns_from b (brought b n)) t no_column
    past_is t h = sym (all_past t h) ∙ ended.columns t h ∙ sym (column_is t h)
      where
        all_past : (t : ℕ) → t < n → (standing (given b) n e reach).col t ≡ past (given b) n e t
        all_past t h = out_there (given b) n e reach t (rw done h)

    pub array_is : length e.array_out ≡ (array_of b.description).channels * n → e.array_out ≡ array_played b n
    unfolding array_played past
    array_is long = block_is _ n e.array_out _ long (λ t h. ap (λ (v : Column). v.signal) (past_is t h))

    pub head_is : length e.head_out ≡ (array_of b.description).head_size * n → e.head_out ≡ head_played b n
    unfolding head_played past
    head_is long = block_is _ n e.head_out _ long (λ t h. ap (λ (v : Column). v.accumulator) (past_is t h))

    remembered_is : (k : ℕ) → k < stage_count b.description → memories_of b.description e.histories e.positions k ≡ states_from b (brought b n) k
    unfolding standing
    remembered_is k h = ended.states k h ∙ ap (λ (st : ℕ → List Memory). st k) (sym states_is)

    pub histories_is : length e.histories ≡ total histories_of (parts_of b.description) → e.histories ≡ histories_played b n
    unfolding histories_played
    histories_is long =
        sym (histories_are b.description e.histories e.positions long)
        ∙ histories_ext b.description (memories_of b.description e.histories e.positions) (states_from b (brought b n)) remembered_is

    pub positions_is : length e.positions ≡ total positions_of (parts_of b.description) → e.positions ≡ positions_played b n
    unfolding positions_played
    positions_is long =
        sym (positions_are b.description e.histories e.positions long)
        ∙ positions_ext b.description (memories_of b.description e.histories e.positions) (states_from b (brought b n)) remembered_is
