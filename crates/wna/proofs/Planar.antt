-- Rows written one after the other make the planar block; what a planar block holds. Assumes nothing.
use mathlib.Core.Path.{◌≡◌, refl, sym, ◌∙◌, ap}
use mathlib.Core.List.{List, append_assoc}
use Prim.Native.Nat.{ℕ, zero, suc, ◌+◌, ◌*◌, ◌/◌, ◌%◌, ◌≤◌, ◌<◌}
use native.Mathlib.Nat.{add-suc, add-zero, div-add-mod', mod-lt, suc-add, zero-add}
use native.Mathlib.Omega.{arith}
use lib.Ieee.{Float, nan}
use lib.ListN.{drop, get_or, length, length-drop, set, take}
use lib.Seq.{drop-drop, length-take-le, sets, sets-eq}
use borrow.Rule.Slice.PartMut.{mid_of, put_mid}
use Rattle.lists.specs.Tab.{at, fill, rows, tab}
use Rattle.lists.proofs.Tab.{at-tab, is_tab, length-tab}
use Rattle.lists.proofs.Rows.{at-rows_in, length-rows, rows_more}
use Rattle.lists.proofs.Nums.{cell_div, cell_lt, cell_mod, div_lt, pos_of_lt}
use Rattle.wna.specs.Columns.{number_at, planar_of, spread_of}

pub at_planar : (w n : ℕ) (f : ℕ → ℕ → Float) (c t : ℕ) → c < w → t < n → at (planar_of w n f) (c * n + t) ≡ f c t
unfolding planar_of
at_planar w n f c t hc ht =
    at-tab nan (w * n) (λ i. f (i / n) (i % n)) (c * n + t) (cell_lt c w n t hc ht) ∙ rw (cell_div c n t ht, cell_mod c n t ht)

-- places filled by a rule are a run
fill_sets : {A : Type 0} (a n : ℕ) (f : ℕ → A) (old : List A) → fill a n f old ≡ sets old a (tab n f)
unfolding fill tab
fill_sets a zero f old = refl
fill_sets a (suc n) f old = first a n f old ∙ fill_sets (suc a) n (λ i. f (suc i)) (set old a (f 0))
  where
    first : {A : Type 0} (a n : ℕ) (f : ℕ → A) (old : List A) → set (fill a n f old) (a + n) (f n) ≡ fill (suc a) n (λ i. f (suc i)) (set old a (f 0))
    first a zero f old = rw (add-zero a)
    first a (suc n) f old = rw (first a n f old, add-suc a n, sym (suc-add a n))

-- a row of a buffer that a rule was written over
pub row_filled : {A : Type 0} (d : A) (old row : List A) (a n k : ℕ) (f : ℕ → A) → a + n ≤ length old → k ≡ n → length row ≡ length (mid_of a k old)
    → ((i : ℕ) → i < length (mid_of a k old) → get_or row i d ≡ f i) → put_mid a k old row ≡ fill a n f old
row_filled d old row a n k f within q len rule =
    let part : length (mid_of a k old) ≡ n = rw q (length-take-le n (drop a old) (omega (arith, length-drop a old))) in
    let r : row ≡ tab n f = is_tab d row n f (len ∙ part) (λ i lt. rule i (omega (arith, lt, part))) in
    let t : length (tab n f) ≡ n = length-tab n f in
    let after : drop n (drop a old) ≡ drop (a + length (tab n f)) old = drop-drop n a old ∙ ap (λ m. drop (a + m) old) (sym t) in
    rw (q, r, after) (sym (append_assoc (take a old) (tab n f) (drop (a + length (tab n f)) old)) ∙ sym (sets-eq (tab n f) old a (omega (arith, within, t))) ∙ sym (fill_sets a n f old))

pub planar_more : (n c : ℕ) (g : ℕ → ℕ → Float) (out old last : List Float) → out ≡ rows 0 n n c g old → last ≡ fill (c * n) n (g c) out → last ≡ rows 0 n n (c + 1) g old
planar_more n c g out old last e h = rows_more 0 n n c g (g c) out old last e (rw (zero-add (c * n)) h) (λ t lt. refl)

pub planar_done : (w n : ℕ) (g : ℕ → ℕ → Float) (out old : List Float) → out ≡ rows 0 n n w g old → length old ≡ w * n → out ≡ planar_of w n g
unfolding planar_of
planar_done w n g out old e len = is_tab nan out (w * n) (λ i. g (i / n) (i % n)) (ap length e ∙ length-rows 0 n n w g old ∙ len) (λ i lt. cell i lt)
  where
    cell : (i : ℕ) → i < w * n → at out i ≡ g (i / n) (i % n)
    cell i lt =
        let pos = pos_of_lt i w n lt in
        let q : i ≡ 0 + i / n * n + i % n = omega (arith, div-add-mod' i n) in
        ap (at out) q ∙ ap (λ (l : List Float). at l (0 + i / n * n + i % n)) e
        ∙ at-rows_in nan 0 n n w g old (i / n) (i % n) (div_lt i w n lt pos) (mod-lt i pos) (omega arith) (omega arith)

pub spread_done : (f : List ℕ) (width k w n : ℕ) (out old : List Float) → out ≡ rows 0 n n w (λ c t. number_at f width t (k + c)) old → length old ≡ w * n → out ≡ spread_of f width k w n
unfolding spread_of
spread_done f width k w n out old e len = planar_done w n _ out old e len
