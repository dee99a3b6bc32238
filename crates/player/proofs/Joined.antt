-- Turn after turn: the lines of the blocks, joined, are the lines of the recurrence's columns from the reset, one at a time, however the columns are cut
-- into blocks. So what is printed for the columns is one function of description, weights and columns. Assumes nothing.
use mathlib.Core.Path.{◌≡◌, refl, sym, ◌∙◌, ap}
use mathlib.Core.List.{List, [], ◌∷◌, ◌++◌, append_assoc, append-nil}
use Prim.Native.Nat.{ℕ, zero, suc, ◌+◌, ◌*◌, ◌<◌}
use native.Mathlib.Nat.{add-suc, add-zero, zero-add}
use native.Mathlib.Omega.{arith}
use lib.Ieee.{Float}
use lib.ListN.{drop, get_or, length, length-append, get_or-append}
use lib.Seq.{get_or-append-add}
use borrow.Author.Tests.{eq-eqb}
use Rattle.lists.specs.Tab.{tab}
use Rattle.lists.proofs.Tab.{length-tab}
use Rattle.ring.specs.Memory.{Memory}
use Rattle.turns.specs.Grid.{columns_after}
use Rattle.turns.proofs.Numbered.{columns_join}
use Rattle.description.specs.Records.{array_of}
use Rattle.description.specs.Sizes.{sizes_of}
use Rattle.array.specs.Stages.{Column, next, out, stage_count}
use Rattle.array.specs.Memories.{memories_of}
use Rattle.array.specs.Calls.{no_column}
use Rattle.demands.specs.Silence.{silence}
use Rattle.demands.proofs.Below.{columns_length}
use Rattle.lines.specs.Text.{last_of, lines_of}
use Rattle.wna.specs.File.{file_played, file_refusal, width_of}
use Rattle.wna.specs.Header.{columns_of}
use Rattle.wna.specs.Opening.{description_of, opening_refusal, weights_at}
use Rattle.player.specs.Plays.{Heard, column_held, column_lines, columns_held, columns_past, states_past}
use Rattle.player.specs.Whole.{columns_in, file_text, weights_in}
use Rattle.player.proofs.Cut.{held_join}
use Rattle.player.proofs.Hearing.{columns_from_now}
use Rattle.player.proofs.Playing.{lines_ext}

-- the lines of m columns and of k after them
lines_join : (first : ℕ) (f : ℕ → List Float) (m k : ℕ) → lines_of first f (m + k) ≡ lines_of first f m ++ lines_of (first + m) (λ t. f (m + t)) k
unfolding lines_of
lines_join first f m zero = rw (add-zero m) (sym (append-nil (lines_of first f m)))
lines_join first f m (suc k) =
    let e : first + (m + k) ≡ first + m + k = omega arith in rw (add-suc m k, e, lines_join first f m k) (append_assoc (lines_of first f m) _ _)

-- the lines of columns and of more columns
pub column_lines_join : (first : ℕ) (xs ys : List Column) → column_lines first (xs ++ ys) ≡ column_lines first xs ++ column_lines (first + length xs) ys
unfolding column_lines
column_lines_join first xs ys =
    rw (length-append xs ys) (lines_join first f (length xs) (length ys))
    ∙ ap (λ (l : List ℕ). l ++ lines_of (first + length xs) (λ t. f (length xs + t)) (length ys)) (lines_ext first _ _ (length xs) before)
    ∙ ap (λ (l : List ℕ). column_lines first xs ++ l) (lines_ext (first + length xs) _ _ (length ys) after)
  where
    f : ℕ → List Float
    f t = let v = get_or (xs ++ ys) t no_column in v.accumulator ++ v.signal

    before : (t : ℕ) → t < length xs → f t ≡ (get_or xs t no_column).accumulator ++ (get_or xs t no_column).signal
    before t l = ap (λ (v : Column). v.accumulator ++ v.signal) (get_or-append xs ys no_column t l)

    after : (t : ℕ) → t < length ys → f (length xs + t) ≡ (get_or ys t no_column).accumulator ++ (get_or ys t no_column).signal
    after t l = ap (λ (v : Column). v.accumulator ++ v.signal) (get_or-append-add xs ys t no_column)

module _ {d : List ℕ} {w : List Float} {count : ℕ} {histories : List Float} {positions : List ℕ} (heard : Heard d w count histories positions) where
  -- the lines so far, and a block's: together those of all columns, from the reset
  pub text_joined : (more : List Column)
      → column_lines 0 (columns_past d w (silence d) heard.columns) ++ column_lines count (columns_past d w (memories_of d histories positions) more)
      ≡ column_lines 0 (columns_past d w (silence d) (heard.columns ++ more))
  text_joined more =
      let past = columns_past d w (silence d) heard.columns in
      let long : length past ≡ count = columns_length (next d w) (out d w) (stage_count d) heard.columns (silence d) ∙ heard.counted in
      ap (λ (l : List Column). column_lines 0 past ++ column_lines count l) (columns_from_now heard more)
      ∙ ap (λ (n : ℕ). column_lines 0 past ++ column_lines n (columns_past d w (states_past d w (silence d) heard.columns) more)) (sym (zero-add (length past) ∙ long))
      ∙ sym (column_lines_join 0 past (columns_past d w (states_past d w (silence d) heard.columns) more))
      ∙ ap (column_lines 0) (sym (columns_join (next d w) (out d w) (stage_count d) (silence d) heard.columns more))

-- ---- blocks of any sizes, one after the other from the same stream of bytes
unfoldable pub sum : List ℕ → ℕ
sum [] = 0
sum (n ∷ ns) = n + sum ns

module _ (d : List ℕ) (w : List Float) where
  -- what is printed for them: each plays the columns of its bytes from what the one before it left, and counts on
  unfoldable pub blocks_text : (ℕ → List Memory) → ℕ → List ℕ → List ℕ → List ℕ
  blocks_text st first f [] = []
  blocks_text st first f (n ∷ ns) =
      column_lines first (columns_past d w st (columns_held d f n))
      ++ blocks_text (states_past d w st (columns_held d f n)) (first + n) (drop (4 * (n * width_of (array_of d))) f) ns

  held_long : (f : List ℕ) (n : ℕ) → length (columns_held d f n) ≡ n
  unfolding columns_held
  held_long f n = length-tab n (column_held d f)

  one_more : (n m : ℕ) (st : ℕ → List Memory) (first : ℕ) (f : List ℕ)
      → column_lines first (columns_past d w st (columns_held d f n))
      ++ column_lines (first + n) (columns_past d w (states_past d w st (columns_held d f n)) (columns_held d (drop (4 * (n * width_of (array_of d))) f) m))
      ≡ column_lines first (columns_past d w st (columns_held d f (n + m)))
  one_more n m st first f =
      let xs = columns_held d f n in
      let ys = columns_held d (drop (4 * (n * width_of (array_of d))) f) m in
      let long : length (columns_past d w st xs) ≡ n = columns_length (next d w) (out d w) (stage_count d) xs st ∙ held_long f n in
      ap (λ (k : ℕ). column_lines first (columns_past d w st xs) ++ column_lines (first + k) (columns_past d w (states_past d w st xs) ys)) (sym long)
      ∙ sym (column_lines_join first (columns_past d w st xs) (columns_past d w (states_past d w st xs) ys))
      ∙ ap (column_lines first) (sym (columns_join (next d w) (out d w) (stage_count d) st xs ys))
      ∙ ap (λ (l : List Column). column_lines first (columns_past d w st l)) (sym (held_join d n m f))

  none_cut : (st : ℕ → List Memory) (first : ℕ) (f : List ℕ) → ◌≡◌ {A = List ℕ} [] (column_lines first (columns_past d w st (columns_held d f 0)))
  unfolding columns_after columns_held column_lines lines_of tab
  none_cut st first f = refl

  -- it is what is printed for all the columns, however they are cut
  pub however_cut : (ns : List ℕ) (st : ℕ → List Memory) (first : ℕ) (f : List ℕ)
      → blocks_text st first f ns ≡ column_lines first (columns_past d w st (columns_held d f (sum ns)))
  unfolding blocks_text sum
  however_cut [] st first f = none_cut st first f
  however_cut (n ∷ ns) st first f =
      ap (λ (l : List ℕ). column_lines first (columns_past d w st (columns_held d f n)) ++ l)
      (however_cut ns (states_past d w st (columns_held d f n)) (first + n) (drop (4 * (n * width_of (array_of d))) f))
      ∙ one_more n (sum ns) st first f

-- a file whose opening is not refused: blocks that are together as long as what is played print its text, and then comes the last line
pub file_printed : (f ns : List ℕ) → opening_refusal f ≡ 0 → sum ns ≡ file_played f
    → blocks_text (description_of f) (weights_in f) (silence (description_of f)) 0 (drop (weights_at f + 4 * (sizes_of (description_of f)).weights) f) ns ++ last_of (file_refusal f) (columns_of f)
    ≡ file_text f
unfolding file_text columns_in
file_printed f ns ok e =
    rw (eq-eqb (opening_refusal f) 0 ok, ← e)
    (ap (λ (l : List ℕ). l ++ last_of (file_refusal f) (columns_of f))
    (however_cut (description_of f) (weights_in f) ns (silence (description_of f)) 0 (drop (weights_at f + 4 * (sizes_of (description_of f)).weights) f)))
