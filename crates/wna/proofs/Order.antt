-- The calls on the pieces of a file, in their order, give the file's refusal. Each piece is what a read of so many bytes gives: fewer where the file
-- ends. Assumes nothing.
use mathlib.Core.Path.{◌≡◌, refl, sym, ◌∙◌}
use mathlib.Core.Bool.{Bool, true, false, cond, not}
use mathlib.Core.List.{List}
use Prim.Native.Nat.{ℕ, ◌+◌, ◌*◌, ◌≤◌, min}
use native.Mathlib.Omega.{arith}
use lib.Dec.{eqb, ltb}
use lib.ListN.{drop, length, length-take, take}
use lib.Seq.{get_or-take}
use borrow.Author.Tests.{le-ltb, lt-ltb, ltb-true, ltb-false}
use Rattle.description.specs.Refusals.{refusal_of}
use Rattle.description.specs.Sizes.{sizes_of}
use Rattle.lists.proofs.Tab.{tab_ext}
use Rattle.wna.specs.Header.{bad_header, block_of, count_of, header_refusal, most_numbers, other_magic}
use Rattle.wna.specs.Opening.{description_of, description_refusal, no_room, opening_refusal, short_for, weights_at}
use Rattle.wna.specs.Words.{half_at, word_at, words_of}

-- numbers that lie in the first n bytes
pub half_front : (n i : ℕ) (f : List ℕ) → i + 2 ≤ n → half_at (take n f) i ≡ half_at f i
unfolding half_at
half_front n i f h = rw (get_or-take n f i 0 (omega arith), get_or-take n f (i + 1) 0 (omega arith))

pub word_front : (n i : ℕ) (f : List ℕ) → i + 4 ≤ n → word_at (take n f) i ≡ word_at f i
unfolding word_at
word_front n i f h = rw (half_front n i f (omega arith), half_front n (i + 2) f (omega arith))

pub words_front : (n : ℕ) (f : List ℕ) → words_of n (take (4 * n) f) ≡ words_of n f
unfolding words_of
words_front n f = tab_ext 0 n (λ i. word_at (take (4 * n) f) (4 * i)) (λ i. word_at f (4 * i)) (λ i lt. word_front (4 * n) (4 * i) f (omega arith))

ltb_front : (n k : ℕ) → ltb (min n k) n ≡ ltb k n
ltb_front n k = go (ltb k n) refl
  where
    go : (b : Bool) → ltb k n ≡ b → ltb (min n k) n ≡ ltb k n
    go true e = lt-ltb (min n k) n (omega (arith, ltb-true k n e)) ∙ sym e
    go false e = le-ltb (min n k) n (omega (arith, ltb-false k n e)) ∙ sym e

pub short_front : (n : ℕ) (f : List ℕ) → short_for n (take (4 * n) f) ≡ short_for n f
unfolding short_for
short_front n f = rw (length-take (4 * n) f) (ltb_front (4 * n) (length f))

module _ (f : List ℕ) where
  magic_front : other_magic (take 15 f) ≡ other_magic f
  unfolding other_magic
  magic_front = rw (get_or-take 15 f 0 0 (omega arith), get_or-take 15 f 1 0 (omega arith), get_or-take 15 f 2 0 (omega arith))

  bad_front : bad_header (take 15 f) ≡ bad_header f
  unfolding bad_header
  bad_front = rw (length-take 15 f, ltb_front 15 (length f), magic_front, half_front 15 3 f (omega arith), half_front 15 5 f (omega arith))

  pub block_front : block_of (take 15 f) ≡ block_of f
  block_front = half_front 15 5 f (omega arith)

  pub count_front : count_of (take 15 f) ≡ count_of f
  count_front = word_front 15 7 f (omega arith)

  pub header_front : header_refusal (take 15 f) ≡ header_refusal f
  unfolding header_refusal
  header_front = rw (bad_front, count_front)

pub description_front : (n block : ℕ) (f : List ℕ) → description_refusal n (take (4 * n) f) block ≡ description_refusal n f block
unfolding description_refusal
description_front n block f = rw (short_front n f, words_front n f)

-- the first number that is not 0
unfoldable pub first_of : ℕ → ℕ → ℕ
first_of a b = cond (eqb a 0) b a

-- what the calls on header, description and weights give: the first refusal
unfoldable pub in_steps : List ℕ → List ℕ → List ℕ → ℕ
in_steps h b w =
    first_of (header_refusal h) (first_of (description_refusal (count_of h) b (block_of h)) (cond (short_for (sizes_of (words_of (count_of h) b)).weights w) 10 0))

in_order : (bad over short room last : Bool) (k : ℕ)
    → cond bad 10 (cond over 11 (cond short 10 (cond (not (eqb k 0)) k (cond room 11 (cond last 10 0)))))
    ≡ first_of (cond bad 10 (cond over 11 0)) (first_of (cond short 10 (cond (not (eqb k 0)) k (cond room 11 0))) (cond last 10 0))
unfolding first_of
in_order true over short room last k = refl
in_order false true short room last k = refl
in_order false false true room last k = refl
in_order false false false room last k = go room (eqb k 0) refl
  where
    go : (room b : Bool) → eqb k 0 ≡ b → cond (not (eqb k 0)) k (cond room 11 (cond last 10 0)) ≡ first_of (cond (not (eqb k 0)) k (cond room 11 0)) (cond last 10 0)
    go room false e = rw (e, e)
    go true true e = rw e
    go false true e = rw e

in_steps_are : (f : List ℕ) → opening_refusal f
    ≡ first_of (header_refusal f) (first_of (description_refusal (count_of f) (drop 15 f) (block_of f)) (cond (short_for (sizes_of (description_of f)).weights (drop (weights_at f) f)) 10 0))
unfolding opening_refusal header_refusal description_refusal description_of
in_steps_are f =
    let d = words_of (count_of f) (drop 15 f) in
    in_order (bad_header f) (ltb most_numbers (count_of f)) (short_for (count_of f) (drop 15 f)) (no_room (sizes_of d) (block_of f)) (short_for (sizes_of d).weights (drop (weights_at f) f)) (refusal_of d)

-- the file's refusal is that of its pieces
pub opening_is : (f : List ℕ) → opening_refusal f
    ≡ in_steps (take 15 f) (take (4 * count_of f) (drop 15 f)) (take (4 * (sizes_of (description_of f)).weights) (drop (weights_at f) f))
unfolding in_steps description_of
opening_is f =
    let d = words_of (count_of f) (drop 15 f) in
    rw (header_front f, count_front f, block_front f, description_front (count_of f) (block_of f) (drop 15 f), words_front (count_of f) (drop 15 f), short_front (sizes_of d).weights (drop (weights_at f) f)) (in_steps_are f)
