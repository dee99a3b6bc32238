-- What holds of a call that none of 1 to 8 refuses, test by test, and back. Assumes nothing.
use mathlib.Core.Path.{◌≡◌, refl, sym}
use mathlib.Core.Bool.{Bool, true, false, not, ◌||◌}
use mathlib.Core.List.{List}
use Prim.Native.Nat.{ℕ, ◌*◌, ◌≤◌, ◌<◌}
use lib.Dec.{eqb, ltb}
use lib.ListN.{length}
use borrow.Author.Tests.{eq-eqb, eqb-true, le-ltb, lt-ltb, ltb-false, not-false}
use Rattle.description.specs.Records.{array_of}
use Rattle.description.specs.Parts.{parts_of}
use Rattle.description.specs.Sizes.{positions_of, sizes_of, total}
use Rattle.description.specs.declared.records.ArrayRecord.{ArrayRecord}
use Rattle.description.specs.declared.answers.Sizes.{Sizes}
use Rattle.description.specs.Refusals.{refusal_of}
use Rattle.array.specs.Lent.{Lent}
use Rattle.array.specs.Refusals.{block_refusal, refused6, refused7, refused8}
use Rattle.admit.specs.Admits.{Admitted}
use Rattle.admit.proofs.Below.{below_not_beyond, positions_below}
use Rattle.admit.proofs.Facts.{none_exactly_when}
use Rattle.admit.proofs.Numbers.{no}

-- 6: the count of columns
pub too_many : (n : ℕ) → 1024 < n → refused6 n ≡ true
unfolding refused6
too_many n lt = lt-ltb 1024 n lt

pub few : (n : ℕ) → n ≤ 1024 → refused6 n ≡ false
unfolding refused6
few n le = le-ltb 1024 n le

pub columns_are : (n : ℕ) → refused6 n ≡ false → n ≤ 1024
unfolding refused6
columns_are n e = ltb-false 1024 n e

-- none of nine tests holds
record NoneOfNine (a b c d e f g h i : Bool) : Type 0 where
  t0 : a ≡ false
  t1 : b ≡ false
  t2 : c ≡ false
  t3 : d ≡ false
  t4 : e ≡ false
  t5 : f ≡ false
  t6 : g ≡ false
  t7 : h ≡ false
  t8 : i ≡ false

nine : (a b c d e f g h i : Bool) → (a || b || c || d || e || f || g || h || i) ≡ false → NoneOfNine a b c d e f g h i
nine false false false false false false false false false z =
    record { t0 = refl; t1 = refl; t2 = refl; t3 = refl; t4 = refl; t5 = refl; t6 = refl; t7 = refl; t8 = refl }
nine true b c d e f g h i z = no (sym z)
nine false true c d e f g h i z = no (sym z)
nine false false true d e f g h i z = no (sym z)
nine false false false true e f g h i z = no (sym z)
nine false false false false true f g h i z = no (sym z)
nine false false false false false true g h i z = no (sym z)
nine false false false false false false true h i z = no (sym z)
nine false false false false false false false true i z = no (sym z)
nine false false false false false false false false true z = no (sym z)

abbrev differ : {A : Type 0} → List A → ℕ → Bool
differ l n = not (eqb (length l) n)

equal : (m n : ℕ) → not (eqb m n) ≡ false → m ≡ n
equal m n e = eqb-true m n (not-false (eqb m n) e)

module _ (b : Lent) (n : ℕ) where
  abbrev a : ArrayRecord
  a = array_of b.description

  abbrev s : Sizes
  s = sizes_of b.description

  tests : refused7 b n ≡ false
      → NoneOfNine (differ b.weights s.weights) (differ b.histories s.histories) (differ b.positions s.positions)
      (differ b.input (a.input * n)) (differ b.condition (a.condition * n)) (differ b.head_in (a.head_in * n))
      (differ b.head_out (a.head_size * n)) (differ b.array_out (a.channels * n)) (ltb (length b.scratch) (16 * s.widest * n))
  unfolding refused7
  tests e = nine _ _ _ _ _ _ _ _ _ e

  -- 7: the positions' length, which the test of 8 rests on
  pub positions_fit : refused7 b n ≡ false → length b.positions ≡ total positions_of (parts_of b.description)
  unfolding sizes_of
  positions_fit e = equal _ _ (tests e).t2

  let_through : refusal_of b.description ≡ 0 → refused6 n ≡ false → refused7 b n ≡ false → refused8 b ≡ false → Admitted b n
  unfolding refused8 sizes_of
  let_through d six seven eight =
      let t = tests seven in
      record {
        described = d;
        columns = columns_are n six;
        weights = equal _ _ t.t0;
        histories = equal _ _ t.t1;
        positions = equal _ _ t.t2;
        input = equal _ _ t.t3;
        condition = equal _ _ t.t4;
        head_in = equal _ _ t.t5;
        head_out = equal _ _ t.t6;
        array_out = equal _ _ t.t7;
        scratch = ltb-false _ _ t.t8;
        places = positions_below b.description b.positions eight (positions_fit seven);
      }

  -- what a block that is not refused is lent fits it
  pub admitted : block_refusal b n ≡ 0 → Admitted b n
  admitted e = let q = (none_exactly_when b n).0 e in let_through q.0 q.1 q.2 q.3

  seven_passed : Admitted b n → refused7 b n ≡ false
  unfolding refused7 sizes_of
  seven_passed f =
      rw (
        eq-eqb _ _ f.weights,
        eq-eqb _ _ f.histories,
        eq-eqb _ _ f.positions,
        eq-eqb _ _ f.input,
        eq-eqb _ _ f.condition,
        eq-eqb _ _ f.head_in,
        eq-eqb _ _ f.head_out,
        eq-eqb _ _ f.array_out,
        le-ltb _ _ f.scratch,
      )

  eight_passed : Admitted b n → refused8 b ≡ false
  unfolding refused8
  eight_passed f = below_not_beyond b.description b.positions f.places

  -- and back: a block that fits is not refused
  pub admitted_only : Admitted b n → block_refusal b n ≡ 0
  admitted_only f = (none_exactly_when b n).1 (f.described, few n f.columns, seven_passed f, eight_passed f)
