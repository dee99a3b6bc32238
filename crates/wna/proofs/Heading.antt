-- The answers on a header, from what the tests told. Assumes nothing.
use Rattle.std.specs.Prelude.{Err, Ok}
use mathlib.Core.Path.{◌≡◌, refl, sym}
use mathlib.Core.Bool.{Bool, true, false, not, ◌||◌, ◌&&◌}
use mathlib.Core.List.{List, [], ◌∷◌}
use Prim.Native.Nat.{ℕ, ◌≤◌, ◌<◌}
use native.Mathlib.Omega.{arith}
use lib.Dec.{eqb}
use lib.ListN.{length}
use borrow.Author.Tests.{eq-eqb, eqb-false, eqb-true, le-ltb, lt-ltb, ne_eqb}
use Rattle.std.specs.List.{starts_with}
use Rattle.wna.specs.Header.{HeaderAnswers, bad_header, block_of, columns_of, count_of, header_refusal, header_values, other_magic, version_of}
use Rattle.refusal.specs.declared.Refusal.TheVariants.{File, Room}
use Rattle.wna.specs.declared.header.Header.{Header}

module _ (f : List ℕ) where
  bad : bad_header f ≡ true → HeaderAnswers f (Err File)
  unfolding header_refusal header_values
  bad e = record { number = rw e; values = rw e }

  pub short : length f < 15 → HeaderAnswers f (Err File)
  unfolding bad_header
  short h = bad (rw (lt-ltb (length f) 15 h))

  module _ (long : 15 ≤ length f) where
    pub other : other_magic f ≡ true → HeaderAnswers f (Err File)
    unfolding bad_header
    other e = bad (rw (le-ltb (length f) 15 long, e))

    module _ (magic : other_magic f ≡ false) where
      pub edition : (version_of f ≡ 1 → ⊥) → HeaderAnswers f (Err File)
      unfolding bad_header
      edition ne = bad (rw (le-ltb (length f) 15 long, magic, ne_eqb (version_of f) 1 ne))

      pub empty : version_of f ≡ 1 → block_of f ≡ 0 → HeaderAnswers f (Err File)
      unfolding bad_header
      empty v e = bad (rw (le-ltb (length f) 15 long, magic, eq-eqb (version_of f) 1 v, eq-eqb (block_of f) 0 e))

      pub large : version_of f ≡ 1 → (block_of f ≡ 0 → ⊥) → 1024 < block_of f → HeaderAnswers f (Err File)
      unfolding bad_header
      large v ne e = bad (rw (le-ltb (length f) 15 long, magic, eq-eqb (version_of f) 1 v, ne_eqb (block_of f) 0 ne, lt-ltb 1024 (block_of f) e))

      good : version_of f ≡ 1 → (block_of f ≡ 0 → ⊥) → block_of f ≤ 1024 → bad_header f ≡ false
      unfolding bad_header
      good v ne e = rw (le-ltb (length f) 15 long, magic, eq-eqb (version_of f) 1 v, ne_eqb (block_of f) 0 ne, le-ltb 1024 (block_of f) e)

      pub crowded : version_of f ≡ 1 → (block_of f ≡ 0 → ⊥) → block_of f ≤ 1024 → 584 < count_of f → HeaderAnswers f (Err Room)
      unfolding header_refusal header_values
      crowded v ne e h = record { number = rw (good v ne e, lt-ltb 584 (count_of f) h); values = rw (good v ne e, lt-ltb 584 (count_of f) h) }

      pub whole : version_of f ≡ 1 → (block_of f ≡ 0 → ⊥) → block_of f ≤ 1024 → count_of f ≤ 584 → (h : Header) → h.block ≡ block_of f → h.count ≡ count_of f → h.columns ≡ columns_of f
          → HeaderAnswers f (Ok h)
      unfolding header_refusal header_values
      whole v ne e c h b n k =
          record { number = rw (good v ne e, le-ltb 584 (count_of f) c); values = rw (good v ne e, le-ltb 584 (count_of f) c, b, n, k) }

-- ---- the three bytes: that the file starts with them, as the code asks it, and each of them, as the definition has it
swapped : (x y : ℕ) (z : Bool) → eqb x y ≡ z → eqb y x ≡ z
swapped x y true e = eq-eqb y x (sym (eqb-true x y e))
swapped x y false e = ne_eqb y x (λ q. eqb-false x y e (sym q))

other_of : (a b c : Bool) → not a || not b || not c ≡ not (a && (b && (c && true)))
other_of false b c = refl
other_of true false c = refl
other_of true true false = refl
other_of true true true = refl

pub magic_is : (f : List ℕ) → 3 ≤ length f → other_magic f ≡ not (starts_with eqb f (87 ∷ 78 ∷ 65 ∷ []))
unfolding other_magic
magic_is [] h = absurd (omega (arith, h))
magic_is (x ∷ []) h = absurd (omega (arith, h))
magic_is (x ∷ y ∷ []) h = absurd (omega (arith, h))
magic_is (x ∷ y ∷ z ∷ rest) h =
    rw (swapped 87 x (eqb 87 x) refl, swapped 78 y (eqb 78 y) refl, swapped 65 z (eqb 65 z) refl) (other_of (eqb 87 x) (eqb 78 y) (eqb 65 z))
