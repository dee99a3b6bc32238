-- What an accepted call was lent has the lengths that document 01 asks for. Assumes nothing.
use mathlib.Core.Path.{◌≡◌, refl, sym}
use mathlib.Core.Bool.{Bool, true, false, cond, not, ◌||◌}
use mathlib.Core.List.{List}
use Prim.Native.Nat.{ℕ, suc, ◌*◌}
use native.Mathlib.Omega.{arith}
use lib.Dec.{eqb, ltb}
use lib.ListN.{length}
use borrow.Author.Tests.{eqb-true, eqb-false}
use Rattle.description.specs.Records.{array_of}
use Rattle.description.specs.Parts.{parts_of}
use Rattle.description.specs.Refusals.{refusal_of}
use Rattle.description.specs.Sizes.{histories_of, positions_of, total, sizes_of}
use Rattle.array.specs.Lent.{Lent}
use Rattle.array.specs.Refusals.{refused6, refused7, refused8, refused9, column_refusal, block_refusal, planned_refusal}
use Rattle.demands.specs.Calls.{Kind, column, block, planned, count_of, refusal_for}

-- no refusal, and a test whose number was not given
passed_by : (r : ℕ) (b t : Bool) (k : ℕ) → b ≡ eqb r 0 → cond b (cond t (suc k) 0) r ≡ 0 → (r ≡ 0) × (t ≡ false)
passed_by r true true k e h = absurd (omega arith)
passed_by r true false k e h = (eqb-true r 0 (sym e), refl)
passed_by r false t k e h = absurd (eqb-false r 0 (sym e) h)

passed : (r : ℕ) (t : Bool) (k : ℕ) → cond (eqb r 0) (cond t (suc k) 0) r ≡ 0 → (r ≡ 0) × (t ≡ false)
passed r t k h = passed_by r (eqb r 0) t k refl h

-- the refusals before a test, as the calls' definitions have them
abbrev through6 : Lent → ℕ → ℕ
through6 b n = cond (eqb (refusal_of b.description) 0) (cond (refused6 n) 6 0) (refusal_of b.description)

abbrev through7 : ℕ → Lent → ℕ → ℕ
through7 r b n = cond (eqb r 0) (cond (refused7 b n) 7 0) r

block_7 : (b : Lent) (n : ℕ) → block_refusal b n ≡ 0 → refused7 b n ≡ false
unfolding block_refusal
block_7 b n h = (passed (through6 b n) (refused7 b n) 6 (passed (through7 (through6 b n) b n) (refused8 b) 7 h).0).1

-- a call that is not refused has no 7
accepted_7 : (kind : Kind) (b : Lent) → refusal_for kind b ≡ 0 → refused7 b (count_of kind) ≡ false
unfolding refusal_for count_of column_refusal planned_refusal
accepted_7 column b h = (passed (refusal_of b.description) (refused7 b 1) 6 (passed (through7 (refusal_of b.description) b 1) (refused8 b) 7 h).0).1
accepted_7 (block n) b h = block_7 b n h
accepted_7 (planned n plan) b h = block_7 b n (passed (block_refusal b n) (refused9 b n plan) 8 h).0

neither : (a b : Bool) → (a || b) ≡ false → (a ≡ false) × (b ≡ false)
neither true b h = absurd (let z : ◌≡◌ {A = ℕ} 0 1 = cc in omega arith)
neither false b h = (refl, h)

-- the tests of refusal 7, none of which holds
record NoneOf (t1 t2 t3 t4 t5 t6 t7 t8 t9 : Bool) : Type 0 where
  second : t2 ≡ false
  third : t3 ≡ false
  seventh : t7 ≡ false
  eighth : t8 ≡ false

none_of : (t1 t2 t3 t4 t5 t6 t7 t8 t9 : Bool) → (t1 || t2 || t3 || t4 || t5 || t6 || t7 || t8 || t9) ≡ false → NoneOf t1 t2 t3 t4 t5 t6 t7 t8 t9
none_of t1 t2 t3 t4 t5 t6 t7 t8 t9 h =
    let eight = (neither (t1 || t2 || t3 || t4 || t5 || t6 || t7 || t8) t9 h).0 in
    let seven = neither (t1 || t2 || t3 || t4 || t5 || t6 || t7) t8 eight in
    let six = neither (t1 || t2 || t3 || t4 || t5 || t6) t7 seven.0 in
    let three = (neither (t1 || t2 || t3) t4 (neither (t1 || t2 || t3 || t4) t5 (neither (t1 || t2 || t3 || t4 || t5) t6 six.0).0).0).0 in
    let two = neither (t1 || t2) t3 three in
    record { second = (neither t1 t2 two.0).1; third = two.1; seventh = six.1; eighth = seven.1 }

differs : {A : Type 0} → List A → ℕ → Bool
differs l n = not (eqb (length l) n)

as_long : {A : Type 0} (l : List A) (n : ℕ) → differs l n ≡ false → length l ≡ n
unfolding differs
as_long l n h = eqb-true (length l) n (by (eqb (length l) n) h)
  where
    by : (b : Bool) → not b ≡ false → b ≡ true
    by true h = refl
    by false h = sym h

pub record Lengths (b : Lent) (n : ℕ) : Type 0 where
  pub histories_long : length b.histories ≡ total histories_of (parts_of b.description)
  pub positions_long : length b.positions ≡ total positions_of (parts_of b.description)
  pub head_out_long : length b.head_out ≡ (array_of b.description).head_size * n
  pub array_out_long : length b.array_out ≡ (array_of b.description).channels * n

pub accepted_lengths : (kind : Kind) (b : Lent) → refusal_for kind b ≡ 0 → Lengths b (count_of kind)
unfolding refused7 sizes_of differs
accepted_lengths kind b h =
    let a = array_of b.description in
    let s = sizes_of b.description in
    let n = count_of kind in
    let none = none_of (differs b.weights s.weights) (differs b.histories s.histories) (differs b.positions s.positions)
    (differs b.input (a.input * n)) (differs b.condition (a.condition * n)) (differs b.head_in (a.head_in * n))
    (differs b.head_out (a.head_size * n)) (differs b.array_out (a.channels * n)) (ltb (length b.scratch) (16 * s.widest * n)) (accepted_7 kind b h) in
    record {
      histories_long = as_long b.histories s.histories none.second;
      positions_long = as_long b.positions s.positions none.third;
      head_out_long = as_long b.head_out (a.head_size * n) none.seventh;
      array_out_long = as_long b.array_out (a.channels * n) none.eighth;
    }
