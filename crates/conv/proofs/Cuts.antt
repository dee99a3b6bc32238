-- A block cut into parts: the columns before t are done, the next part goes on from the memory after them. Assumes nothing.
use mathlib.Core.Path.{◌≡◌, refl, sym, ◌∙◌, ap}
use mathlib.Core.List.{List}
use mathlib.Core.Logic.{⊎_elim}
use Prim.Native.Nat.{ℕ, suc, ◌+◌, ◌*◌, ◌≤◌, ◌<◌}
use native.Mathlib.Nat.{mul-le-mul_left, not-suc-le-zero, add-suc, add-zero}
use native.Mathlib.Omega.{arith}
use lib.ListN.{length}
use lib.Ieee.{Float, nan}
use Rattle.lists.specs.Tab.{at, rows}
use Rattle.lists.specs.Region.{Apart, Beside, Holds, Strip, Free, cell}
use Rattle.lists.proofs.Nums.{row_end, le_or_lt}
use Rattle.lists.proofs.Regions.{free_self, free_then, holds_free, holds_strip, strip_as, strip_free, strip_join, strip_holds}
use Rattle.ring.specs.Memory.{Memory, after}
use Rattle.ring.proofs.Blocks.{after_none, after_join}
use Rattle.shape.specs.declared.Shape.{Shape}
use Rattle.shape.specs.Counts.{ring_length}
use Rattle.column.specs.Recurrence.{output, remembered}
use Rattle.conv.specs.Fits.{ConvFits, BlockFits}
use Rattle.conv.specs.Does.{Convolved, Played}
use Rattle.column.proofs.OneColumn.{parts_after}
use Rattle.conv.proofs.Blocks.{column_is}

-- the first t columns are done
pub record Begun (sh : Shape) (weights : List Float) (m t x out rows : ℕ) (old : List Float) (s : Memory) (work : List Float) (s' : Memory) : Type 0 where
  pub outs : (f : ℕ → ℕ → Float) → Holds x sh.ins m (λ c t. f t c) old → Strip out m sh.outs t (λ o t. output sh weights (remembered sh f s (suc t)) o) work
  pub memory : (f : ℕ → ℕ → Float) → Holds x sh.ins m (λ c t. f t c) old → s' ≡ remembered sh f s t
  pub others : Free nan (λ i. Apart out (sh.outs * m) i 1 × Apart rows (sh.ins * m) i 1) old work

pub begun_none : (sh : Shape) (weights : List Float) (m x out rows : ℕ) (old : List Float) (s : Memory) → Begun sh weights m 0 x out rows old s old s
begun_none sh weights m x out rows old s = record {
  outs = λ f held. record { is = λ o t ho ht. absurd (not-suc-le-zero ht) };
  memory = λ f held. sym (after_none sh.ins (ring_length sh) f s);
  others = free_self;
}

-- done is done
pub begun_all : {sh : Shape} {weights : List Float} {m x out rows : ℕ} {old : List Float} {s : Memory} {work : List Float} {s' : Memory}
    → Begun sh weights m m x out rows old s work s' → Convolved sh weights m x out rows old s work s'
begun_all b = record { outs = λ f held. strip_holds (b.outs f held); memory = b.memory; others = b.others }

module _ {sh : Shape} {place len m t nwork nweights x out rows : ℕ} {weights old history work history' : List Float} {place' : ℕ}
    (f : ConvFits sh place len m nwork (length history) nweights x out rows)
    (b : Begun sh weights m t x out rows old (record { history = history; place = place }) work (record { history = history'; place = place' })) where
  -- where the next n columns lie
  pub part_fits : (n len' now : ℕ) → 0 < n → t + n ≤ m → len' ≡ len → now ≡ nwork → BlockFits sh place' len' m n now (length history') nweights (x + t) (out + t) rows
  part_fits n len' now some le l e =
      let cells : ℕ → ℕ → Float = λ t c. cell m x old c t in
      let so_far : record { history = history'; place = place' } ≡ after sh.ins len cells (record { history = history; place = place }) t =
      rw f.parts.ring_is (b.memory cells (record { is = λ c t hc ht. refl })) in
      let narrow : sh.ins * n ≤ sh.ins * m = mul-le-mul_left sh.ins (omega arith) in
      record {
        parts = parts_after place' len' t history history' cells f.parts so_far l;
        some = some;
        x_in = λ c hc. omega (arith, f.x_in, row_end c sh.ins m hc, e, le);
        out_in = λ o ho. omega (arith, f.out_in, row_end o sh.outs m ho, e, le);
        rows_in = omega (arith, f.rows_in, narrow, e);
        out_x = λ o c ho hc. omega (arith, f.out_x, row_end o sh.outs m ho, row_end c sh.ins m hc, le);
        out_rows = λ o ho. omega (arith, f.out_rows, row_end o sh.outs m ho, narrow, le);
        rows_x = λ c hc. omega (arith, f.rows_x, row_end c sh.ins m hc, narrow, le);
        narrow = omega arith;
      }

  -- an output already there is none of the next columns'
  done_beside : (n c i : ℕ) → t + n ≤ m → c < sh.outs → i < t → Beside (out + t) m sh.outs n (out + c * m + i)
  done_beside n c i le hc hi e he =
      ⊎_elim
      (λ (l : suc c ≤ e). omega (arith, row_end c e m l, le, hi))
      (λ (l : e < suc c). ⊎_elim
      (λ (q : suc e ≤ c). omega (arith, row_end e c m q, le, hi))
      (λ (q : c < suc e). let same : e ≡ c = omega arith in rw same (omega (arith, le, hi)))
      (le_or_lt (suc e) c))
      (le_or_lt (suc c) e)

  -- what lies outside of both regions lies outside of the next columns'
  outside : (n i : ℕ) → t + n ≤ m → Apart out (sh.outs * m) i 1 × Apart rows (sh.ins * m) i 1 → Beside (out + t) m sh.outs n i × Apart rows (sh.ins * n) i 1
  outside n i le p =
      let narrow : sh.ins * n ≤ sh.ins * m = mul-le-mul_left sh.ins (omega arith) in
      (λ c hc. omega (arith, p.0, row_end c sh.outs m hc, le), omega (arith, p.1, narrow))

  -- n columns more
  pub begun_more : (n : ℕ) (last : List Float) (s'' : Memory) → t + n ≤ m
      → Played sh weights m n (x + t) (out + t) rows work (record { history = history'; place = place' }) last s''
      → Begun sh weights m (t + n) x out rows old (record { history = history; place = place }) last s''
  begun_more n last s'' le p =
      let s : Memory = record { history = history; place = place } in
      let narrow : sh.ins * n ≤ sh.ins * m = mul-le-mul_left sh.ins (omega arith) in
      let here : (g : ℕ → ℕ → Float) → Holds x sh.ins m (λ c t. g t c) old → Strip (x + t) m sh.ins n (λ c i. g (t + i) c) work =
      λ g held. holds_strip t n le (holds_free b.others (λ i lo hi. (omega (arith, f.out_x, lo, hi), omega (arith, f.rows_x, lo, hi))) held) in
      let then : (g : ℕ → ℕ → Float) → Holds x sh.ins m (λ c t. g t c) old → (k : ℕ)
      → remembered sh (λ i. g (t + i)) (record { history = history'; place = place' }) k ≡ remembered sh g s (t + k) =
      λ g held k. rw (b.memory g held) (after_join sh.ins (ring_length sh) g s t k) in
      record {
        outs = λ g held.
            strip_join t n
            (strip_free p.others (λ c i hc hi. (done_beside n c i le hc hi, omega (arith, f.out_rows, row_end c sh.outs m hc, hi, le, narrow))) (b.outs g held))
            (strip_as (p.outs (λ i. g (t + i)) (here g held)) (λ o i ho hi.
            ap (λ (q : Memory). output sh weights q o) (then g held (suc i) ∙ ap (remembered sh g s) (add-suc t i))));
        memory = λ g held. p.memory (λ i. g (t + i)) (here g held) ∙ then g held n;
        others = free_then b.others p.others (λ i q. q) (λ i q. outside n i le q);
      }

-- ---- a block of one column, played by itself
module _ {sh : Shape} {place len nwork nweights x out rows' : ℕ} (weights history old : List Float)
    (f : ConvFits sh place len 1 nwork (length history) nweights x out rows') (size : length old ≡ nwork) where
  pub one_fits : BlockFits sh place len 1 1 nwork (length history) nweights x out rows'
  one_fits =
      let none = begun_none sh weights 1 x out rows' old (record { history = history; place = place }) in
      rw (add-zero x, add-zero out) at (part_fits f none 1 len nwork (omega arith) (omega arith) refl refl)

  pub one_is : (work : List Float) (s' : Memory) → s' ≡ remembered sh (λ t c. at old (x + c * 1 + t)) (record { history = history; place = place }) 1
      → work ≡ rows out 1 1 sh.outs (λ o t. output sh weights s' o) old
      → Convolved sh weights 1 x out rows' old (record { history = history; place = place }) work s'
  one_is work s' e h =
      let s : Memory = record { history = history; place = place } in
      let played : Played sh weights 1 1 x out rows' old s work s' = column_is weights old work s s' one_fits size e h in
      begun_all (begun_more f (begun_none sh weights 1 x out rows' old s) 1 work s' (omega arith) (rw (add-zero x, add-zero out) played))
