-- What the turns of the loops come to: a column stored, a column fetched, a row copied, and what a tap reads put together. Assumes nothing.
use mathlib.Core.Path.{◌≡◌, sym, ◌∙◌, ap}
use mathlib.Core.List.{List}
use Prim.Native.Nat.{ℕ, suc, ◌+◌, ◌-◌, ◌*◌, ◌≤◌, ◌<◌, min}
use native.Mathlib.Nat.{mul_comm}
use native.Mathlib.Omega.{arith}
use lib.ListN.{length}
use lib.Ieee.{Float, nan}
use Rattle.lists.specs.Tab.{at, fill, rows}
use Rattle.lists.specs.Region.{Apart}
use Rattle.lists.proofs.Nums.{row_end}
use Rattle.lists.proofs.Rows.{rows_more, rows_ext, rows_wider, at-rows-out}
use Rattle.ring.specs.Place.{next_place, place_back}
use Rattle.ring.specs.Memory.{Memory, Sound, push, past, after, seen}
use Rattle.ring.proofs.Places.{next_lt, next_back}
use Rattle.ring.proofs.Window.{after_sound, seen_in, seen-out}
use Rattle.ring.proofs.Blocks.{after_more, push_ext}
use Rattle.history.specs.Fits.{StoreFits, FetchFits, CopyFits, GatherFits}

-- a place in the ring ends within the history
pub column_end : (ins len p n : ℕ) → p < len → n ≡ ins * len → p * ins + ins ≤ n
column_end ins len p n h e = omega (arith, row_end p len ins h, e, mul_comm ins len)

-- after t columns the memory has its size, and the next column lies in its history
pub turn_sound : {ins len nwork x stride n : ℕ} (t p : ℕ) (g : ℕ → ℕ → Float) (s : Memory) (history : List Float) → StoreFits s.place len (length s.history) nwork ins x stride n
    → record { history = history; place = p } ≡ after ins len g s t → Sound ins len (record { history = history; place = p })
turn_sound {ins} {len} t p g s history f e =
    let before : Sound ins len s = record { place_in = f.place_in; history_is = f.history_is } in
    rw e (after_sound before g t)

pub turn_fits : {ins len : ℕ} (p q : ℕ) (history : List Float) → Sound ins len (record { history = history; place = p }) → q ≡ next_place len p → q * ins + ins ≤ length history
turn_fits {ins} {len} p q history f h = column_end ins len q (length history) (rw h (next_lt len p f.place_in)) f.history_is

pub store_turn : (ins len t : ℕ) (x : ℕ → ℕ → Float) (s : Memory) (history last : List Float) (p q : ℕ) (column : ℕ → Float)
    → record { history = history; place = p } ≡ after ins len x s t → q ≡ next_place len p → last ≡ fill (q * ins) ins column history
    → ((j : ℕ) → j < ins → column j ≡ x t j) → record { history = last; place = q } ≡ after ins len x s (t + 1)
unfolding push
store_turn ins len t x s history last p q column e g h same =
    rw (h, g) (push_ext ins len (record { history = history; place = p }) column (x t) same)
    ∙ ap (λ (m : Memory). push ins len m (x t)) e
    ∙ after_more ins len x s t

-- the next place, reading the past forward
pub fetch_place : (len at back t p q : ℕ) → at < len → back < len → t < back → p ≡ place_back len at (back - t) → q ≡ next_place len p → q ≡ place_back len at (back - (t + 1))
fetch_place len at back t p q ha hb ht e g =
    let one : back - t ≡ suc (back - (t + 1)) = omega arith in
    rw (g, e, one) (next_back len at (back - (t + 1)) ha (omega arith))

pub fetch_turn : (ins len place back to stride n t q : ℕ) (history old work last : List Float)
    → FetchFits place len (length history) (length old) ins to stride back n → t < n
    → q ≡ place_back len place (back - (t + 1))
    → work ≡ rows to stride t ins (λ j t. past ins len (record { history = history; place = place }) j (back - t - 1)) old
    → last ≡ rows (to + t) stride 1 ins (λ j i. at history (q * ins + j)) work
    → last ≡ rows to stride (t + 1) ins (λ j t. past ins len (record { history = history; place = place }) j (back - t - 1)) old
unfolding past
fetch_turn ins len place back to stride n t q history old work last f lt e h l =
    l ∙ rows_ext (to + t) stride 1 ins _ (λ j i. at history (place_back len place (back - (t + i) - 1) * ins + j)) work
    (λ c i hc hi.
    let is : back - (t + 1) ≡ back - (t + i) - 1 = omega arith in
    rw (e, is))
    ∙ rw h (rows_wider nan to stride t 1 ins (λ j t. at history (place_back len place (back - t - 1) * ins + j)) old (omega (arith, f.narrow)) (omega (arith, f.narrow, f.rows_in)))

pub copy_turn : (to step from stride w n c : ℕ) (old work last : List Float) → CopyFits (length old) to step from stride w n → c < w
    → work ≡ rows to step n c (λ c t. at old (from + c * stride + t)) old
    → last ≡ fill (to + c * step) n (λ t. at work (from + c * stride + t)) work
    → last ≡ rows to step n (c + 1) (λ c t. at old (from + c * stride + t)) old
copy_turn to step from stride w n c old work last f lt e h =
    rows_more to step n c _ _ work old last e h (λ t ht.
    rw e (at-rows-out nan to step n c _ old (from + c * stride + t) (λ i hi. omega (arith, f.apart i c (omega arith) lt, ht))))

-- the first columns of row i lie apart from a row of the block
row_apart : (to all row n before x t : ℕ) → Apart to all x n → row + n ≤ all → before ≤ n → t < n → Apart (to + row) before (x + t) 1
row_apart to all row n before x t h e b lt = omega arith

rest_apart : (to all row n before x : ℕ) → Apart to all x n → row + n ≤ all → before ≤ n → Apart (to + before + row) (n - before) x (n - before)
rest_apart to all row n before x h e b = omega arith

module _ {place len nhistory nwork ins to x stride back n before : ℕ} (f : GatherFits place len nhistory nwork ins to x stride back n) (b : before ≡ min back n) where
  pub fetch_fits : FetchFits place len nhistory nwork ins to n back before
  fetch_fits = record {
    some = f.some;
    place_in = f.place_in;
    history_is = f.history_is;
    back_in = f.back_in;
    before = omega arith;
    narrow = omega arith;
    rows_in = f.rows_in;
  }

  pub copy_fits : {m : ℕ} → m ≡ nwork → CopyFits m (to + before) n x stride ins (n - before)
  copy_fits e = record {
    to_in = λ c hc. omega (arith, e, f.rows_in, row_end c ins n hc, b);
    from_in = λ c hc. omega (arith, e, f.block_in c hc);
    apart = λ c i hc hi. rest_apart to (ins * n) (c * n) n before (x + i * stride) (f.apart i hi) (row_end c ins n hc) (omega arith);
  }

-- the columns before the block, then the block's own
pub gather_is : (at_place len ins to x stride back n before : ℕ) (history old work last : List Float)
    → GatherFits at_place len (length history) (length old) ins to x stride back n → before ≡ min back n
    → work ≡ rows to n before ins (λ j t. past ins len (record { history = history; place = at_place }) j (back - t - 1)) old
    → last ≡ rows (to + before) n (n - before) ins (λ c t. at work (x + c * stride + t)) work
    → last ≡ rows to n n ins (λ c t. seen (λ i. at old (x + c * stride + i)) (past ins len (record { history = history; place = at_place }) c) back t) old
gather_is at_place len ins to x stride back n before history old work last f b e h =
    let tap : ℕ → ℕ → Float = λ c t. seen (λ i. at old (x + c * stride + i)) (past ins len (record { history = history; place = at_place }) c) back t in
    let first : work ≡ rows to n before ins tap old =
    e ∙ rows_ext to n before ins _ tap old (λ c t hc ht. sym (seen-out _ _ back t (omega arith))) in
    let all : before + (n - before) ≡ n = omega arith in
    h ∙ rows_ext (to + before) n (n - before) ins _ (λ c i. tap c (before + i)) work
    (λ c t hc ht.
    let is : before + t - back ≡ t = omega arith in
    let kept : at work (x + c * stride + t) ≡ at old (x + c * stride + t) =
    rw e (at-rows-out nan to n before ins _ old (x + c * stride + t) (λ i hi. row_apart to (ins * n) (i * n) n before (x + c * stride) t (f.apart c hc) (row_end i ins n hi) (omega arith) (omega arith))) in
    kept ∙ sym (seen_in _ _ back (before + t) (omega arith) ∙ ap (λ (k : ℕ). at old (x + c * stride + k)) is))
    ∙ ap (λ (l : List Float). rows (to + before) n (n - before) ins (λ c i. tap c (before + i)) l) first
    ∙ rows_wider nan to n before (n - before) ins tap old (omega arith) (omega (arith, f.rows_in, all))
    ∙ ap (λ (k : ℕ). rows to n k ins tap old) all
