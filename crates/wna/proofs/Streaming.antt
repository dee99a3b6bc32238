-- A stream played block by block: the turns of the program's loop, as they go by how many bytes each read gives, and that for every block size they
-- print the whole columns and end as document 01 says. Assumes nothing.
use mathlib.Core.Path.{◌≡◌, refl, sym, ◌∙◌, ap}
use mathlib.Core.Bool.{Bool, true, false, cond}
use mathlib.Core.Logic.{⊎_elim}
use Prim.Native.Nat.{ℕ, zero, suc, ◌+◌, ◌-◌, ◌*◌, ◌/◌, ◌≤◌, ◌<◌, min}
use native.Mathlib.Nat.{mul-add-div_right, mul-div_cancel, zero-mul, add-mul}
use native.Mathlib.Omega.{arith}
use lib.Dec.{eqb, ltb}
use borrow.Author.Tests.{eq-eqb, eqb-false, eqb-true, ltb-false, ltb-true, ne_eqb}
use Rattle.lists.proofs.Nums.{div_lt, le_or_lt, row_le}
use Rattle.wna.specs.Stream.{next_block, played_of, stream_refusal, whole_in}

-- the bytes that a read of the next block gives
unfoldable pub read_of : ℕ → ℕ → ℕ → ℕ → ℕ
read_of block width left bytes = min (next_block block left * (4 * width)) bytes

-- the columns that the next turn plays
unfoldable pub turn_of : ℕ → ℕ → ℕ → ℕ → ℕ
turn_of block width left bytes = whole_in width (read_of block width left bytes)

-- the columns that are printed in at most k turns, and the refusal at the end: a turn that plays less than its block is the last; with no column left
-- one byte more is asked for
unfoldable pub printed_in : ℕ → ℕ → ℕ → ℕ → ℕ → ℕ
printed_in zero block width left bytes = 0
printed_in (suc k) block width left bytes =
    let m = turn_of block width left bytes in
    cond (eqb left 0) 0 (cond (ltb m (next_block block left)) m (m + printed_in k block width (left - m) (bytes - m * (4 * width))))

unfoldable pub refusal_in : ℕ → ℕ → ℕ → ℕ → ℕ → ℕ
refusal_in zero block width left bytes = cond (eqb (min 1 bytes) 0) 0 10
refusal_in (suc k) block width left bytes =
    let m = turn_of block width left bytes in
    cond (eqb left 0) (cond (eqb (min 1 bytes) 0) 0 10)
    (cond (ltb m (next_block block left)) 10 (refusal_in k block width (left - m) (bytes - m * (4 * width))))

-- ---- quotients by the bytes of a column
div_low : (b u n : ℕ) → 0 < u → b < n * u → b / u < n
div_low b u n pos h = div_lt b n u h pos

div_past : (b u n : ℕ) → 0 < u → n * u ≤ b → b / u ≡ n + (b - n * u) / u
div_past b u n pos h =
    let e : b ≡ n * u + (b - n * u) = omega arith in
    ap (λ (x : ℕ). x / u) e ∙ mul-add-div_right {m = u} pos n (b - n * u)

-- a turn that is cut, and a whole one
module _ (block width left bytes : ℕ) (pos : 0 < 4 * width) where
  cut_bytes : turn_of block width left bytes < next_block block left → bytes < next_block block left * (4 * width)
  unfolding turn_of read_of whole_in
  cut_bytes h = ⊎_elim
      (λ le. let e : min (next_block block left * (4 * width)) bytes ≡ next_block block left * (4 * width) = omega arith in absurd (omega (arith, rw (e, mul-div_cancel (next_block block left) pos) at h)))
      (λ lt. lt)
      (le_or_lt (next_block block left * (4 * width)) bytes)

  cut_turn : turn_of block width left bytes < next_block block left → turn_of block width left bytes ≡ whole_in width bytes
  unfolding turn_of read_of
  cut_turn h = let b = cut_bytes h in let e : min (next_block block left * (4 * width)) bytes ≡ bytes = omega arith in rw e

  whole_bytes : next_block block left ≤ turn_of block width left bytes → next_block block left * (4 * width) ≤ bytes
  unfolding turn_of read_of whole_in
  whole_bytes h = ⊎_elim
      (λ le. le)
      (λ lt. let e : min (next_block block left * (4 * width)) bytes ≡ bytes = omega arith in absurd (omega (arith, rw e at h, div_low bytes (4 * width) (next_block block left) pos lt)))
      (le_or_lt (next_block block left * (4 * width)) bytes)

  whole_turn : next_block block left ≤ turn_of block width left bytes → turn_of block width left bytes ≡ next_block block left
  unfolding turn_of read_of whole_in
  whole_turn h = let b = whole_bytes h in let e : min (next_block block left * (4 * width)) bytes ≡ next_block block left * (4 * width) = omega arith in rw (e, mul-div_cancel (next_block block left) pos)

-- ---- how the stream ends
no_column_is : (b u : ℕ) → cond {A = ℕ} (eqb (min 1 b) 0) 0 10 ≡ cond (eqb b (0 * u)) 0 10
no_column_is b u = go (eqb b 0) refl
  where
    go : (t : Bool) → eqb b 0 ≡ t → cond {A = ℕ} (eqb (min 1 b) 0) 0 10 ≡ cond (eqb b (0 * u)) 0 10
    go true e = let z = eqb-true b 0 e in rw (zero-mul u, e, eq-eqb (min 1 b) 0 (omega arith))
    go false e = let ne = eqb-false b 0 e in rw (zero-mul u, e, ne_eqb (min 1 b) 0 (λ q. ne (omega arith)))

same_end : (r m u b : ℕ) → m * u ≤ b → eqb (b - m * u) (r * u) ≡ eqb b ((r + m) * u)
same_end r m u b h = go (eqb (b - m * u) (r * u)) refl
  where
    go : (t : Bool) → eqb (b - m * u) (r * u) ≡ t → eqb (b - m * u) (r * u) ≡ eqb b ((r + m) * u)
    go true e = let q = eqb-true (b - m * u) (r * u) e in e ∙ sym (eq-eqb b ((r + m) * u) (omega (arith, add-mul r m u)))
    go false e = let ne = eqb-false (b - m * u) (r * u) e in e ∙ sym (ne_eqb b ((r + m) * u) (λ q. ne (omega (arith, add-mul r m u))))

none_refused : (width bytes : ℕ) → cond {A = ℕ} (eqb (min 1 bytes) 0) 0 10 ≡ stream_refusal 0 width bytes
unfolding stream_refusal
none_refused width bytes = no_column_is bytes (4 * width)

none_printed : (left width bytes : ℕ) → left ≡ 0 → 0 ≡ played_of left width bytes
unfolding played_of
none_printed left width bytes e = omega arith

-- ---- one turn
module _ (block width left bytes : ℕ) (hw : 0 < width) where
  cut_printed : turn_of block width left bytes < next_block block left → turn_of block width left bytes ≡ played_of left width bytes
  unfolding played_of next_block
  cut_printed h = omega (arith, cut_turn block width left bytes (omega arith) h)

  cut_refused : turn_of block width left bytes < next_block block left → 10 ≡ stream_refusal left width bytes
  unfolding stream_refusal next_block
  cut_refused h =
      rw (ne_eqb bytes (left * (4 * width)) (λ e. absurd (omega (arith, cut_bytes block width left bytes (omega arith) h, row_le (min block left) left (4 * width) (omega arith)))))

  module _ (hb : 0 < block) (some : left ≡ 0 → ⊥) (h : next_block block left ≤ turn_of block width left bytes) where
    one_more : (1 ≤ turn_of block width left bytes) × (turn_of block width left bytes ≤ left)
    unfolding next_block
    one_more =
        let e = whole_turn block width left bytes (omega arith) h in
        let p : 0 < left = ⊎_elim (λ le. absurd (some (omega arith))) (λ lt. lt) (le_or_lt left 0) in
        (omega arith, omega arith)

    in_bytes : turn_of block width left bytes * (4 * width) ≤ bytes
    in_bytes = rw (whole_turn block width left bytes (omega arith) h) (whole_bytes block width left bytes (omega arith) h)

    turn_less : (k : ℕ) → left ≤ suc k → left - turn_of block width left bytes ≤ k
    turn_less k le = omega (arith, one_more)

    rest_printed : {x : ℕ} → x ≡ played_of (left - turn_of block width left bytes) width (bytes - turn_of block width left bytes * (4 * width))
        → turn_of block width left bytes + x ≡ played_of left width bytes
    unfolding played_of whole_in
    rest_printed e = omega (arith, e, one_more, div_past bytes (4 * width) (turn_of block width left bytes) (omega arith) in_bytes)

    rest_refused : stream_refusal (left - turn_of block width left bytes) width (bytes - turn_of block width left bytes * (4 * width)) ≡ stream_refusal left width bytes
    unfolding stream_refusal
    rest_refused =
        let m = turn_of block width left bytes in
        let q : left - m + m ≡ left = omega (arith, one_more) in
        rw (same_end (left - m) m (4 * width) bytes in_bytes, q)

-- ---- all turns: the next one, and those after it
module _ (k block width left bytes : ℕ) (hb : 0 < block) (hw : 0 < width) where
  step_printed : (z t : Bool) → eqb left 0 ≡ z → ltb (turn_of block width left bytes) (next_block block left) ≡ t
      → ((left ≡ 0 → ⊥) → next_block block left ≤ turn_of block width left bytes
      → printed_in k block width (left - turn_of block width left bytes) (bytes - turn_of block width left bytes * (4 * width))
      ≡ played_of (left - turn_of block width left bytes) width (bytes - turn_of block width left bytes * (4 * width)))
      → printed_in (suc k) block width left bytes ≡ played_of left width bytes
  unfolding printed_in
  step_printed true t ez et ih = rw ez (none_printed left width bytes (eqb-true left 0 ez))
  step_printed false true ez et ih = rw (ez, et) (cut_printed block width left bytes hw (ltb-true _ _ et))
  step_printed false false ez et ih =
      let some = eqb-false left 0 ez in
      let h = ltb-false (turn_of block width left bytes) (next_block block left) et in
      rw (ez, et) (rest_printed block width left bytes hw hb some h (ih some h))

  step_refused : (z t : Bool) → eqb left 0 ≡ z → ltb (turn_of block width left bytes) (next_block block left) ≡ t
      → ((left ≡ 0 → ⊥) → next_block block left ≤ turn_of block width left bytes
      → refusal_in k block width (left - turn_of block width left bytes) (bytes - turn_of block width left bytes * (4 * width))
      ≡ stream_refusal (left - turn_of block width left bytes) width (bytes - turn_of block width left bytes * (4 * width)))
      → refusal_in (suc k) block width left bytes ≡ stream_refusal left width bytes
  unfolding refusal_in
  step_refused true t ez et ih = rw ez (none_refused width bytes ∙ ap (λ (n : ℕ). stream_refusal n width bytes) (sym (eqb-true left 0 ez)))
  step_refused false true ez et ih = rw (ez, et) (cut_refused block width left bytes hw (ltb-true _ _ et))
  step_refused false false ez et ih =
      let some = eqb-false left 0 ez in
      let h = ltb-false (turn_of block width left bytes) (next_block block left) et in
      rw (ez, et) (ih some h ∙ rest_refused block width left bytes hw hb some h)

-- the turns print the whole columns, as many as were counted
pub stream_printed : (k block width left bytes : ℕ) → left ≤ k → 0 < block → 0 < width → printed_in k block width left bytes ≡ played_of left width bytes
unfolding printed_in
stream_printed zero block width left bytes h hb hw = none_printed left width bytes (omega arith)
stream_printed (suc k) block width left bytes h hb hw =
    let m = turn_of block width left bytes in
    step_printed k block width left bytes hb hw (eqb left 0) (ltb m (next_block block left)) refl refl
    (λ some le. stream_printed k block width (left - m) (bytes - m * (4 * width)) (turn_less block width left bytes hw hb some le k h) hb hw)

-- and end with 0 exactly where the stream is the counted columns and nothing else, else with 10
pub stream_refused : (k block width left bytes : ℕ) → left ≤ k → 0 < block → 0 < width → refusal_in k block width left bytes ≡ stream_refusal left width bytes
unfolding refusal_in
stream_refused zero block width left bytes h hb hw = let e : left ≡ 0 = omega arith in rw e (none_refused width bytes)
stream_refused (suc k) block width left bytes h hb hw =
    let m = turn_of block width left bytes in
    step_refused k block width left bytes hb hw (eqb left 0) (ltb m (next_block block left)) refl refl
    (λ some le. stream_refused k block width (left - m) (bytes - m * (4 * width)) (turn_less block width left bytes hw hb some le k h) hb hw)
