-- A list filled from the front, for any elements; and the positions of parts, one part more. Assumes nothing.
use Rattle.std.specs.Prelude.{None, Some}
use mathlib.Core.Path.{◌≡◌, refl, sym, ◌∙◌, ap}
use mathlib.Core.List.{List, [], ◌∷◌, ◌++◌, append_assoc, append-nil}
use Prim.Native.Nat.{ℕ, suc, ◌+◌, ◌≤◌, ◌<◌}
use native.Mathlib.Nat.{add-zero}
use native.Mathlib.Numerals.{add-one}
use native.Mathlib.Omega.{arith}
use lib.ListN.{drop, get_or, length, length-append, set, take, drop_of_length-le}
use lib.Seq.{append_snoc, drop-cons, set_at, sets, take_all, take-suc}
use Rattle.description.specs.Sizes.{positions_of, total}
use Rattle.description.proofs.Sound.{within}
use Rattle.description.proofs.Totals.{total-take}
use Rattle.description.specs.Part.{Part}
use Rattle.reset.specs.Resets.{start_of, starts_of}

-- one element more
pub set_next : {A : Type 0} (xs d : List A) (n : ℕ) (v : A) → length xs ≡ n → n < length d → set (xs ++ drop n d) n v ≡ (xs ++ v ∷ []) ++ drop (n + 1) d
set_next xs d n v e lt = rw (add-one, drop-cons d n v lt) (set_at xs (get_or d n v) (drop (suc n) d) v n e ∙ sym (append_snoc xs v (drop (suc n) d)))

-- all of them
pub filled : {A : Type 0} (xs d : List A) (n : ℕ) → length d ≤ n → xs ++ drop n d ≡ xs
filled xs d n le = rw (drop_of_length-le d {i = n} le) (append-nil xs)

pub length_start : (p : Part) → length (start_of p) ≡ positions_of p
unfolding start_of positions_of
length_start None = refl
length_start (Some sh) = refl

pub length_starts : (ps : List Part) → length (starts_of ps) ≡ total positions_of ps
unfolding starts_of total
length_starts [] = refl
length_starts (p ∷ ps) = length-append (start_of p) (starts_of ps) ∙ rw (length_start p, length_starts ps)

starts_append : (xs : List Part) (p : Part) → starts_of (xs ++ p ∷ []) ≡ starts_of xs ++ start_of p
unfolding starts_of
starts_append [] p = append-nil (start_of p)
starts_append (x ∷ xs) p = rw (starts_append xs p) (sym (append_assoc (start_of x) (starts_of xs) (start_of p)))

pub starts_take : (ps : List Part) (i : ℕ) → i < length ps → starts_of (take (i + 1) ps) ≡ starts_of (take i ps) ++ start_of (get_or ps i None)
starts_take ps i lt = rw (add-one, take-suc ps i None lt) (starts_append (take i ps) (get_or ps i None))

-- a part's position stored
pub sets_next : (xs d : List ℕ) (n : ℕ) (p : Part) → length xs ≡ n → n + positions_of p ≤ length d
    → sets (xs ++ drop n d) n (start_of p) ≡ (xs ++ start_of p) ++ drop (n + positions_of p) d
unfolding start_of positions_of
sets_next xs d n None e le = rw (append-nil xs, add-zero n)
sets_next xs d n (Some sh) e le = set_next xs d n _ e (omega arith)

-- the loop over the parts: one turn
module _ (ps : List Part) (old : List ℕ) (i at : ℕ) (lt : i < length ps) (fits : length old ≡ total positions_of ps) where
  pub room : at ≡ total positions_of (take i ps) → at + positions_of (get_or ps i None) ≤ length old
  unfolding positions_of
  room e = omega (arith, within positions_of refl ps i)

  pub next-at : at ≡ total positions_of (take i ps) → at + positions_of (get_or ps i None) ≡ total positions_of (take (i + 1) ps)
  next-at e = rw e (sym (total-take positions_of ps i lt))

  pub turn : at ≡ total positions_of (take i ps) → {now : List ℕ} → now ≡ starts_of (take i ps) ++ drop at old
      → sets now at (start_of (get_or ps i None)) ≡ starts_of (take (i + 1) ps) ++ drop (at + positions_of (get_or ps i None)) old
  turn e {now} h =
      ap (λ (l : List ℕ). sets l at (start_of (get_or ps i None))) h
      ∙ sets_next (starts_of (take i ps)) old at (get_or ps i None) (length_starts (take i ps) ∙ sym e) (room e)
      ∙ ap (λ (l : List ℕ). l ++ drop (at + positions_of (get_or ps i None)) old) (sym (starts_take ps i lt))

-- the end: every part is in, and nothing of the old list is left
pub rewound_all : (ps : List Part) (old : List ℕ) (i at : ℕ) → length ps ≤ i → length old ≡ total positions_of ps → at ≡ total positions_of (take i ps) → {now : List ℕ}
    → now ≡ starts_of (take i ps) ++ drop at old → now ≡ starts_of ps
rewound_all ps old i at le fits e h =
    let q : take i ps ≡ ps = take_all i ps le in
    let z : at ≡ total positions_of ps = e ∙ ap (total positions_of) q in
    h ∙ ap (λ (l : List Part). starts_of l ++ drop at old) q ∙ filled (starts_of ps) old at (omega arith)
