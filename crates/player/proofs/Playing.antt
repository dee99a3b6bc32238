-- A block of the program: it is not refused, and what is printed are the recurrence's columns for the bytes that were read. Assumes nothing.
use mathlib.Core.Path.{◌≡◌, refl, sym, ◌∙◌, ap}
use mathlib.Core.List.{List, ◌++◌}
use Prim.Native.Nat.{ℕ, zero, suc, ◌+◌, ◌*◌, ◌<◌}
use native.Mathlib.Nat.{zero-add}
use native.Mathlib.Omega.{arith}
use lib.Ieee.{Float, nan}
use lib.ListN.{get_or, length}
use borrow.Author.Tests.{eq-eqb}
use Rattle.lists.specs.Tab.{tab}
use Rattle.lists.proofs.Tab.{at-tab, length-tab, tab_ext}
use Rattle.description.specs.Records.{array_of}
use Rattle.description.specs.declared.records.ArrayRecord.{ArrayRecord}
use Rattle.array.specs.Stages.{Column}
use Rattle.array.specs.Planar.{column_in, columns_in}
use Rattle.array.specs.Lent.{Left, Lent}
use Rattle.array.specs.Refusals.{block_refusal}
use Rattle.array.specs.Calls.{Answers, array_played, brought, columns_from, head_played, histories_played, no_column, positions_played, states_from}
use Rattle.admit.proofs.Letting.{admitted_only}
use Rattle.demands.specs.Calls.{Call, block, count_of, handed}
use Rattle.demands.proofs.Outputs.{handed_are}
use Rattle.lines.specs.Lines.{Printed}
use Rattle.lines.specs.Text.{column_of, lines_of, outputs_of}
use Rattle.wna.specs.Columns.{number_at, spread_of}
use Rattle.wna.specs.File.{width_of}
use Rattle.wna.proofs.Planar.{at_planar}
use Rattle.player.specs.Fits.{Ready}
use Rattle.player.specs.Plays.{Plays, column_held, column_lines, columns_held}
use Rattle.player.proofs.Hearing.{heard_histories, heard_places, heard_positions}

-- ---- lines
pub lines_ext : (first : ℕ) (f g : ℕ → List Float) (n : ℕ) → ((t : ℕ) → t < n → f t ≡ g t) → lines_of first f n ≡ lines_of first g n
unfolding lines_of
lines_ext first f g zero h = refl
lines_ext first f g (suc n) h = rw (lines_ext first f g n (λ t l. h t (omega arith)), h n (omega arith))

-- ---- the columns of the bytes
column_spread : (f : List ℕ) (width k w n t : ℕ) → t < n → column_in w n (spread_of f width k w n) t ≡ tab w (λ c. number_at f width t (k + c))
unfolding column_in spread_of
column_spread f width k w n t l = tab_ext nan w _ _ (λ c h. at_planar w n (λ c t. number_at f width t (k + c)) c t h l)

column_first : (f : List ℕ) (width w n t : ℕ) → t < n → column_in w n (spread_of f width 0 w n) t ≡ tab w (λ c. number_at f width t c)
column_first f width w n t l = column_spread f width 0 w n t l ∙ tab_ext nan w _ _ (λ c h. ap (number_at f width t) (zero-add c))

module _ (d bytes : List ℕ) (n : ℕ) where
  abbrev a : ArrayRecord
  a = array_of d

  held_is : columns_in d n (spread_of bytes (width_of a) 0 a.input n) (spread_of bytes (width_of a) a.input a.condition n)
      (spread_of bytes (width_of a) (a.input + a.condition) a.head_in n) ≡ columns_held d bytes n
  unfolding columns_in columns_held column_held
  held_is = tab_ext no_column n _ _ one
    where
      one : (t : ℕ) → t < n → ◌≡◌ {A = Column} (record {
        signal = column_in a.input n (spread_of bytes (width_of a) 0 a.input n) t;
        accumulator = column_in a.head_in n (spread_of bytes (width_of a) (a.input + a.condition) a.head_in n) t;
        condition = column_in a.condition n (spread_of bytes (width_of a) a.input a.condition n) t;
      }) (column_held d bytes t)
      one t l = rw (
        column_first bytes (width_of a) a.input n t l,
        column_spread bytes (width_of a) (a.input + a.condition) a.head_in n t l,
        column_spread bytes (width_of a) a.input a.condition n t l,
      )

-- ---- not refused
module _ (b : Lent) (n : ℕ) (a : ArrayRecord) (first : ℕ) (text : List ℕ)
    (ready : Ready b.description a n first b.weights b.histories b.positions b.scratch text) where
  -- the planar buffers, by the array record that the program has read
  pub record Planar : Type 0 where
    pub input : length b.input ≡ a.input * n
    pub condition : length b.condition ≡ a.condition * n
    pub head_in : length b.head_in ≡ a.head_in * n
    pub head_out : length b.head_out ≡ a.head_size * n
    pub array_out : length b.array_out ≡ a.channels * n

  pub not_refused : Planar → block_refusal b n ≡ 0
  not_refused p =
      let s = ready.suits in
      admitted_only b n (record {
        described = s.sound;
        columns = s.most;
        weights = ready.weights_are;
        histories = heard_histories ready.heard;
        positions = heard_positions ready.heard;
        input = rw s.array_is at p.input;
        condition = rw s.array_is at p.condition;
        head_in = rw s.array_is at p.head_in;
        head_out = rw s.array_is at p.head_out;
        array_out = rw s.array_is at p.array_out;
        scratch = omega (arith, s.planar, ready.scratch_room);
        places = heard_places ready.heard;
      })

-- ---- what it prints and leaves
module _ (b : Lent) (n : ℕ) (e : Left) (answers : Answers b n (block_refusal b n) e) (ok : block_refusal b n ≡ 0) where
  abbrev d : List ℕ
  d = b.description

  head_is : e.head_out ≡ head_played b n
  head_is = rw (eq-eqb (block_refusal b n) 0 ok) at answers.head_out

  array_is : e.array_out ≡ array_played b n
  array_is = rw (eq-eqb (block_refusal b n) 0 ok) at answers.array_out

  abbrev call : Call
  call = record { kind = block n; lent = b; left = e }

  handed_is : handed call ≡ columns_from b (brought b n)
  unfolding count_of
  handed_is = handed_are call array_is head_is

  long : length (columns_from b (brought b n)) ≡ n
  unfolding handed count_of
  long = ap length (sym handed_is) ∙ length-tab n _

  column_is : (t : ℕ) → t < n
      → outputs_of n (array_of d).head_size e.head_out (array_of d).channels e.array_out t
      ≡ (get_or (columns_from b (brought b n)) t no_column).accumulator ++ (get_or (columns_from b (brought b n)) t no_column).signal
  unfolding outputs_of column_of handed count_of column_in
  column_is t l = rw (← handed_is, at-tab no_column n _ t l)

  lines_are : (first : ℕ) → lines_of first (outputs_of n (array_of d).head_size e.head_out (array_of d).channels e.array_out) n
      ≡ column_lines first (columns_from b (brought b n))
  unfolding column_lines
  lines_are first = lines_ext first _ _ n column_is ∙ ap (lines_of first _) (sym long)

  -- the columns brought are those of the bytes
  module _ (bytes : List ℕ) (a : ArrayRecord) (a_is : a ≡ array_of d)
      (input_is : b.input ≡ spread_of bytes (width_of a) 0 a.input n)
      (condition_is : b.condition ≡ spread_of bytes (width_of a) a.input a.condition n)
      (head_in_is : b.head_in ≡ spread_of bytes (width_of a) (a.input + a.condition) a.head_in n) where
    brought_are : brought b n ≡ columns_held d bytes n
    unfolding brought
    brought_are = rw (input_is, condition_is, head_in_is, a_is) (held_is d bytes n)

    pub plays : (first : ℕ) {text : List ℕ} {r : ℕ} {text' : List ℕ}
        → Printed text 0 (lines_of first (outputs_of n a.head_size e.head_out a.channels e.array_out) n) r text'
        → Plays d b.weights bytes n first b.histories b.positions text r e.histories e.positions text'
    unfolding histories_played positions_played states_from columns_from
    plays first {text} {r} {text'} p =
        let yes = eq-eqb (block_refusal b n) 0 ok in
        record {
          printed = rw (a_is, lines_are first, brought_are) at p;
          histories_are = rw (yes, brought_are) at answers.histories;
          positions_are = rw (yes, brought_are) at answers.positions;
        }

-- the same for a description and weights by other names
module _ {d d' : List ℕ} {w w' : List Float} (description_is : d' ≡ d) (weights_are : w' ≡ w) where
  pub ready_as : {a : ArrayRecord} {n first : ℕ} {histories : List Float} {positions : List ℕ} {scratch : List Float} {text : List ℕ}
      → Ready d a n first w histories positions scratch text → Ready d' a n first w' histories positions scratch text
  ready_as r = rw (description_is, weights_are) r

  pub plays_as : {bytes : List ℕ} {n first : ℕ} {histories : List Float} {positions text : List ℕ} {r : ℕ} {histories' : List Float} {positions' text' : List ℕ}
      → Plays d' w' bytes n first histories positions text r histories' positions' text' → Plays d w bytes n first histories positions text r histories' positions' text'
  plays_as p = rw (description_is, weights_are) at p
