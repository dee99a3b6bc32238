-- A pass over the positions and the rings of their parts: part by part and layer by layer. Assumes nothing.
use Rattle.std.specs.Prelude.{None, Some}
use mathlib.Core.Path.{◌≡◌, refl, sym, ◌∙◌, ap}
use mathlib.Core.Bool.{false, not, or_assoc, or-false, ◌||◌}
use mathlib.Core.List.{List, [], ◌∷◌, ◌++◌}
use mathlib.Core.Logic.{⊎_elim}
use Prim.Native.Nat.{ℕ, zero, suc, ◌+◌, ◌≤◌, ◌<◌}
use native.Mathlib.Nat.{add_assoc, add-zero, eq-or-lt_of_le, le_of_suc-le-suc, zero-add}
use native.Mathlib.Numerals.{add-one}
use native.Mathlib.Omega.{arith}
use lib.Dec.{leb, ltb}
use lib.ListN.{drop, get_or, length, take}
use lib.Seq.{drop-cons, drop-drop, drop-nil, take-suc, take_all}
use borrow.Author.Tests.{le-leb, le-ltb, lt-leb, lt-ltb}
use Rattle.lists.proofs.Nums.{le_or_lt}
use Rattle.shape.specs.declared.Shape.{Shape}
use Rattle.shape.specs.Counts.{ring_length}
use Rattle.description.specs.Numbers.{layer_count}
use Rattle.description.specs.Records.{array_of, layer_of}
use Rattle.description.specs.Parts.{each_layer, head_rechannel_of, parts_of, parts_to, rechannel_of, slots_of}
use Rattle.description.specs.Sizes.{positions_of, total}
use Rattle.description.specs.declared.records.ArrayRecord.{ArrayRecord}
use Rattle.description.specs.declared.records.LayerRecord.{LayerRecord}
use Rattle.description.specs.Part.{Part}
use Rattle.description.proofs.Sound.{within}
use Rattle.description.proofs.Totals.{total-append}
use Rattle.array.specs.Refusals.{beyond}
use Rattle.admit.specs.Passes.{passed}
use Rattle.admit.specs.declared.places.Pass.{Pass}

not_ltb : (a b : ℕ) → leb b a ≡ not (ltb a b)
not_ltb a b =
    ⊎_elim (λ (h : b ≤ a). rw (le-leb b a h, le-ltb a b h)) (λ (h : a < b). rw (lt-leb b a h, lt-ltb a b h)) (le_or_lt b a)

beyond-none : (ps : List Part) → beyond ps [] ≡ false
unfolding beyond
beyond-none [] = refl
beyond-none (None ∷ ps) = beyond-none ps
beyond-none (Some sh ∷ ps) = refl

-- parts end to end: the second ones' positions follow those of the first
pub beyond-append : (xs ys : List Part) (places : List ℕ)
    → beyond (xs ++ ys) places ≡ (beyond xs places || beyond ys (drop (total positions_of xs) places))
unfolding beyond total positions_of
beyond-append [] ys places = refl
beyond-append (None ∷ xs) ys places = rw (zero-add (total positions_of xs)) (beyond-append xs ys places)
beyond-append (Some sh ∷ xs) ys [] = rw (drop-nil {A = ℕ} (1 + total positions_of xs), beyond-none ys)
beyond-append (Some sh ∷ xs) ys (p ∷ places) =
    let e : 1 + total positions_of xs ≡ suc (total positions_of xs) = omega arith in
    rw (e, beyond-append xs ys places)
    (sym (or_assoc (not (ltb p (ring_length sh))) (beyond xs places) (beyond ys (drop (total positions_of xs) places))))

-- a pass over parts end to end
pub passed-append : (positions : List ℕ) (p : Pass) (xs ys : List Part) → passed positions (passed positions p xs) ys ≡ passed positions p (xs ++ ys)
unfolding passed
passed-append positions p xs ys =
    rw (
      total-append positions_of xs ys,
      add_assoc p.at (total positions_of xs) (total positions_of ys),
      beyond-append xs ys (drop p.at positions),
      drop-drop (total positions_of xs) p.at positions,
      or_assoc p.beyond (beyond xs (drop p.at positions)) (beyond ys (drop (p.at + total positions_of xs) positions)),
    )

pub passed_none : (positions : List ℕ) (p : Pass) → p ≡ passed positions p []
unfolding passed total beyond
passed_none positions p = rw (add-zero p.at, or-false p.beyond)

-- one part
pub passed_absent : (positions : List ℕ) (p : Pass) → p ≡ passed positions p (None ∷ [])
unfolding passed total positions_of beyond
passed_absent positions p = rw (add-zero p.at, or-false p.beyond)

pub passed_there : (positions : List ℕ) (p : Pass) (sh : Shape) → p.at < length positions → {ring : ℕ} → ring ≡ ring_length sh
    → ◌≡◌ {A = Pass} (record { at = p.at + 1; beyond = p.beyond || leb ring (get_or positions p.at 0) }) (passed positions p (Some sh ∷ []))
unfolding passed total positions_of beyond
passed_there positions p sh lt e =
    rw (
      e,
      drop-cons positions p.at 0 lt,
      not_ltb (get_or positions p.at 0) (ring_length sh),
      or-false (not (ltb (get_or positions p.at 0) (ring_length sh))),
    )

-- the loop over a list of parts: k of them are passed
module _ (positions : List ℕ) (start : Pass) (ps : List Part) (k : ℕ) {p : Pass} (e : p ≡ passed positions start (take k ps)) where
  pub part_room : start.at + total positions_of ps ≤ length positions → p.at + positions_of (get_or ps k None) ≤ length positions
  unfolding passed positions_of
  part_room fits = omega (arith, ap (λ (p : Pass). p.at) e, within positions_of refl ps k)

  pub part_more : k < length ps → {part : Part} {q : Pass} → part ≡ get_or ps k None → q ≡ passed positions p (part ∷ [])
      → q ≡ passed positions start (take (k + 1) ps)
  part_more lt pe qe =
      qe
      ∙ ap (λ (part : Part). passed positions p (part ∷ [])) pe
      ∙ ap (λ (p : Pass). passed positions p (get_or ps k None ∷ [])) e
      ∙ passed-append positions start (take k ps) (get_or ps k None ∷ [])
      ∙ ap (passed positions start) (rw (add-one k) (sym (take-suc ps k None lt)))

  pub parts_end : length ps ≤ k → p ≡ passed positions start ps
  parts_end le = e ∙ ap (passed positions start) (take_all k ps le)

-- the loop over the layers
abbrev pub origin : Pass
origin = record { at = 0; beyond = false }

module _ (d positions : List ℕ) where
  slots : ℕ → List Part
  slots l = slots_of (array_of d) (layer_of d l)

  each_mono : (l n : ℕ) → l ≤ n → total positions_of (each_layer slots l) ≤ total positions_of (each_layer slots n)
  unfolding each_layer
  each_mono l zero le = let e : l ≡ 0 = omega arith in rw e (omega arith)
  each_mono l (suc n) le =
      ⊎_elim (λ q. rw q (omega arith))
      (λ lt. omega (arith, each_mono l n (le_of_suc-le-suc lt), total-append positions_of (each_layer slots n) (slots n)))
      (eq-or-lt_of_le {n = l} {m = suc n} le)

  to_mono : (l : ℕ) → l ≤ layer_count d → total positions_of (parts_to d l) ≤ total positions_of (parts_to d (layer_count d))
  unfolding parts_to total slots
  to_mono l le = omega (arith, each_mono l (layer_count d) le)

  to_more : (l : ℕ) → parts_to d (l + 1) ≡ parts_to d l ++ slots l
  unfolding parts_to each_layer slots
  to_more l = rw (add-one l)

  module _ (fits : length positions ≡ total positions_of (parts_of d)) where
    whole_is : length positions ≡ total positions_of (parts_to d (layer_count d)) + 1
    unfolding parts_of total positions_of head_rechannel_of
    whole_is = fits ∙ total-append positions_of (parts_to d (layer_count d)) (head_rechannel_of (array_of d) ∷ [])

    pub first_room : 0 + positions_of (rechannel_of (array_of d)) ≤ length positions
    unfolding positions_of rechannel_of
    first_room = omega (arith, whole_is)

    pub first_passed : {p : Pass} → p ≡ passed positions origin (rechannel_of (array_of d) ∷ []) → p ≡ passed positions origin (parts_to d 0)
    unfolding parts_to each_layer
    first_passed e = e

    module _ (l : ℕ) {p : Pass} (e : p ≡ passed positions origin (parts_to d l)) where
      pub layer_room : l < layer_count d → p.at + total positions_of (slots_of (array_of d) (layer_of d l)) ≤ length positions
      unfolding passed slots
      layer_room lt =
          omega (
            arith,
            ap (λ (p : Pass). p.at) e,
            whole_is,
            to_mono (l + 1) (omega arith),
            ap (total positions_of) (to_more l),
            total-append positions_of (parts_to d l) (slots l),
          )

      pub layer_more : {q : Pass} → q ≡ passed positions p (slots_of (array_of d) (layer_of d l)) → q ≡ passed positions origin (parts_to d (l + 1))
      unfolding slots
      layer_more qe =
          qe
          ∙ ap (λ (p : Pass). passed positions p (slots l)) e
          ∙ passed-append positions origin (parts_to d l) (slots l)
          ∙ ap (passed positions origin) (sym (to_more l))

      pub last_room : l ≡ layer_count d → p.at + positions_of (head_rechannel_of (array_of d)) ≤ length positions
      unfolding passed positions_of head_rechannel_of
      last_room q = omega (arith, ap (λ (p : Pass). p.at) e, whole_is, ap (λ (l : ℕ). total positions_of (parts_to d l)) q)

      pub last_passed : l ≡ layer_count d → {q : Pass} → q ≡ passed positions p (head_rechannel_of (array_of d) ∷ []) → q.beyond ≡ beyond (parts_of d) positions
      unfolding passed parts_of
      last_passed le qe =
          ap (λ (p : Pass). p.beyond)
          (qe
          ∙ ap (λ (p : Pass). passed positions p (head_rechannel_of (array_of d) ∷ [])) (e ∙ ap (λ (l : ℕ). passed positions origin (parts_to d l)) le)
          ∙ passed-append positions origin (parts_to d (layer_count d)) (head_rechannel_of (array_of d) ∷ []))

pub slots_same : {a b : ArrayRecord} {r s : LayerRecord} → a ≡ b → r ≡ s → slots_of a r ≡ slots_of b s
slots_same {a} {b} {r} {s} e f = ap (λ (a : ArrayRecord). slots_of a r) e ∙ ap (slots_of b) f
