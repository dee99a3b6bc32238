-- The answers on a description and on weights, from what the tests told. Assumes nothing.
use Rattle.std.specs.Prelude.{Err, Ok}
use mathlib.Core.Path.{◌≡◌, refl, sym, ap, subst}
use mathlib.Core.Bool.{true, false}
use mathlib.Core.List.{List}
use Prim.Native.Nat.{ℕ, ◌*◌, ◌≤◌, ◌<◌}
use lib.Ieee.{Float}
use lib.ListN.{length}
use borrow.Author.Tests.{eq-eqb, le-ltb, lt-ltb}
use Rattle.description.specs.Answers.{Answers, values_of}
use Rattle.refusal.specs.declared.Refusal.{Refusal}
use Rattle.refusal.specs.declared.Refusal.TheVariants.{File, Room}
use Rattle.description.specs.Refusals.{refusal_of}
use Rattle.description.specs.Sizes.{sizes_of}
use Rattle.description.specs.Checked.{Checked}
use Rattle.description.specs.declared.answers.Sizes.{Sizes}
use Rattle.description.proofs.Facts.{refused_only, sound_only}
use Rattle.description.proofs.Sound.{widest_most}
use Rattle.wna.specs.Opening.{Described, Weighed, description_refusal, no_room, short_for}
use Rattle.wna.specs.Words.{floats_of, words_of}

pub short : (n : ℕ) (f : List ℕ) → length f < 4 * n → short_for n f ≡ true
unfolding short_for
short n f h = lt-ltb (length f) (4 * n) h

pub long : (n : ℕ) (f : List ℕ) → 4 * n ≤ length f → short_for n f ≡ false
unfolding short_for
long n f h = le-ltb (length f) (4 * n) h

module _ (numbers f : List ℕ) (block : ℕ) where
  pub cut : length f < 4 * length numbers → Described numbers f block (Err File) numbers
  unfolding description_refusal values_of
  cut h =
      let s = short (length numbers) f h in
      record { number = rw s; values = refl; unpacked = rw s }

  module _ (h : 4 * length numbers ≤ length f) {numbers' : List ℕ} (e : numbers' ≡ words_of (length numbers) f) {checked : Checked} (answer : Answers numbers' checked) where
    d : List ℕ
    d = words_of (length numbers) f

    ok : short_for (length numbers) f ≡ false
    ok = long (length numbers) f h

    is : Answers d checked
    unfolding d
    is = subst (λ (l : List ℕ). Answers l checked) e answer

    pub wrong : {refusal : Refusal} → checked ≡ Err refusal → Described numbers f block (Err refusal) numbers'
    unfolding description_refusal d values_of
    wrong q =
        let a = refused_only d (subst (Answers d) q is) in
        record {
          number = rw (ok, a.1) a.0;
          values = rw (a.0, a.1);
          unpacked = rw ok e;
        }

    module _ {s : Sizes} (q : checked ≡ Ok s) where
      sizes_is : (refusal_of d ≡ 0) × (s ≡ sizes_of d)
      sizes_is = sound_only d (subst (Answers d) q is)

      pub low : s.widest ≤ 64
      unfolding sizes_of
      low = rw (ap (λ (s : Sizes). s.widest) sizes_is.1) (widest_most d sizes_is.0)

      pub crowded : no_room s block ≡ true → Described numbers f block (Err Room) numbers'
      unfolding description_refusal d values_of
      crowded r =
          record {
            number = rw (ok, eq-eqb (refusal_of d) 0 sizes_is.0, sym (ap (λ (s : Sizes). no_room s block) sizes_is.1), r);
            values = refl;
            unpacked = rw ok e;
          }

      pub opened : no_room s block ≡ false → Described numbers f block (Ok s) numbers'
      unfolding description_refusal d values_of
      opened r =
          record {
            number = rw (ok, eq-eqb (refusal_of d) 0 sizes_is.0, sym (ap (λ (s : Sizes). no_room s block) sizes_is.1), r);
            values = rw sizes_is.1;
            unpacked = rw ok e;
          }

module _ (weights : List Float) (f : List ℕ) where
  pub weights_cut : length f < 4 * length weights → Weighed weights f 10 weights
  weights_cut h = let s = short (length weights) f h in record { number = rw s; unpacked = rw s }

  pub weights_inside : 4 * length weights ≤ length f → {weights' : List Float} → weights' ≡ floats_of (length weights) f → Weighed weights f 0 weights'
  weights_inside h e = let s = long (length weights) f h in record { number = rw s; unpacked = rw s e }
