-- The theorems on the answers: any two results that meet a contract agree, and what a whole header tells. Assumes nothing.
use Rattle.std.specs.Prelude.{Err, Ok}
use mathlib.Core.Path.{◌≡◌, refl, sym, ◌∙◌, ap}
use mathlib.Core.Bool.{Bool, true, false, cond, not, ◌||◌}
use mathlib.Core.List.{List, [], ◌∷◌}
use mathlib.Core.Logic.{⊎_elim}
use Prim.Native.Nat.{ℕ, ◌*◌, ◌≤◌}
use native.Mathlib.Omega.{arith}
use lib.Dec.{eqb, ltb}
use lib.Ieee.{Float}
use lib.ListN.{length}
use borrow.Author.Tests.{eq-eqb, eqb-false, eqb-true, ltb-false}
use Rattle.lists.proofs.Nums.{le_or_lt}
use Rattle.wna.specs.Header.{HeaderAnswers, LowHeader, bad_header, block_of, columns_of, count_of, header_length, header_refusal, header_values, most_numbers, other_magic, version_of}
use Rattle.description.specs.Answers.{Answers, listed, values_of}
use Rattle.refusal.specs.Number.{number_of}
use Rattle.description.specs.Refusals.{refusal_of}
use Rattle.description.specs.Sizes.{sizes_of}
use Rattle.description.specs.Checked.{Checked}
use Rattle.description.specs.declared.answers.Sizes.{Sizes}
use Rattle.description.proofs.Facts.{sound_only}
use Rattle.wna.specs.Opening.{Described, Opened, Weighed, description_refusal, no_room, short_for}
use Rattle.wna.specs.Words.{words_of}
use Rattle.wna.specs.declared.header.Header.{Header}
use Rattle.wna.specs.Header.{HeaderAnswer}
use Rattle.refusal.specs.declared.Refusal.{Refusal}
use Rattle.refusal.proofs.Named.{same_number}

same_header : (h k : Header) → header_values (Ok h) ≡ header_values (Ok k) → h ≡ k
unfolding header_values
same_header h k e =
    let b : h.block ≡ k.block = cc in
    let n : h.count ≡ k.count = cc in
    let c : h.columns ≡ k.columns = cc in
    let q : ◌≡◌ {A = Header} (record { block = h.block; count = h.count; columns = h.columns }) (record { block = k.block; count = k.count; columns = k.columns }) = rw (b, n, c) in
    q

nothing : {P : Type 0} (n : Refusal) (h : Header) → header_values (Err n) ≡ header_values (Ok h) → P
unfolding header_values
nothing n h e = absurd (let z : ◌≡◌ {A = ℕ} 0 1 = cc in omega arith)

same_answer : (r s : HeaderAnswer) → number_of r ≡ number_of s → header_values r ≡ header_values s → r ≡ s
same_answer (Err n) (Err m) e v = ap Err (same_number e)
same_answer (Err n) (Ok h) e v = nothing n h v
same_answer (Ok h) (Err n) e v = nothing n h (sym v)
same_answer (Ok h) (Ok k) e v = ap Ok (same_header h k v)

pub header_agree : (f : List ℕ) {r s : HeaderAnswer} → HeaderAnswers f r → HeaderAnswers f s → r ≡ s
header_agree f {r} {s} a b = same_answer r s (a.number ∙ sym b.number) (a.values ∙ sym b.values)

pub weights_agree : (w : List Float) (f : List ℕ) {r s : ℕ} {x y : List Float} → Weighed w f r x → Weighed w f s y → (r ≡ s) × (x ≡ y)
weights_agree w f a b = (a.number ∙ sym b.number, a.unpacked ∙ sym b.unpacked)

not_bad : (a b c d e : Bool) → a || b || c || d || e ≡ false → (d ≡ false) × (e ≡ false)
not_bad false false false false e h = (refl, h)
not_bad true b c d e h = absurd (let z : ◌≡◌ {A = ℕ} 0 1 = cc in omega arith)
not_bad false true c d e h = absurd (let z : ◌≡◌ {A = ℕ} 0 1 = cc in omega arith)
not_bad false false true d e h = absurd (let z : ◌≡◌ {A = ℕ} 0 1 = cc in omega arith)
not_bad false false false true e h = absurd (let z : ◌≡◌ {A = ℕ} 0 1 = cc in omega arith)

block_in : (f : List ℕ) → bad_header f ≡ false → (eqb (block_of f) 0 ≡ false) × (ltb 1024 (block_of f) ≡ false)
unfolding bad_header
block_in f e = not_bad (ltb (length f) header_length) (other_magic f) (not (eqb (version_of f) 1)) (eqb (block_of f) 0) (ltb 1024 (block_of f)) e

none : (bad over : Bool) → ◌≡◌ {A = ℕ} 0 (cond bad 10 (cond over 11 0)) → (bad ≡ false) × (over ≡ false)
none true over e = absurd (omega arith)
none false true e = absurd (omega arith)
none false false e = (refl, refl)

passed : (f : List ℕ) → 0 ≡ header_refusal f → (bad_header f ≡ false) × (ltb most_numbers (count_of f) ≡ false)
unfolding header_refusal
passed f e = none (bad_header f) (ltb most_numbers (count_of f)) e

above : (b : ℕ) → (b ≡ 0 → ⊥) → 1 ≤ b
above b ne = ⊎_elim (λ le. absurd (ne (omega arith))) (λ lt. lt) (le_or_lt b 0)

pub block_some : (f : List ℕ) → bad_header f ≡ false → 1 ≤ block_of f
block_some f e = above (block_of f) (eqb-false (block_of f) 0 (block_in f e).0)

-- what a whole header tells of its numbers
pub header_low : (f : List ℕ) {h : Header} → HeaderAnswers f (Ok h) → LowHeader h
unfolding header_values
header_low f {h} a =
    let p = passed f a.number in
    let b = block_in f p.0 in
    let v : h.block ∷ h.count ∷ h.columns ∷ [] ≡ block_of f ∷ count_of f ∷ columns_of f ∷ [] = rw (eq-eqb (header_refusal f) 0 (sym a.number)) at a.values in
    let e : h.block ≡ block_of f = cc in
    let n : h.count ≡ count_of f = cc in
    record {
      some = rw e (block_some f p.0);
      largest = rw e (ltb-false 1024 (block_of f) b.1);
      numbers = rw n (ltb-false 584 (count_of f) p.1);
    }

-- what a description that is not refused tells
open_only : (short room : Bool) (k : ℕ) → ◌≡◌ {A = ℕ} 0 (cond short 10 (cond (not (eqb k 0)) k (cond room 11 0))) → (short ≡ false) × (k ≡ 0) × (room ≡ false)
open_only true room k e = absurd (omega arith)
open_only false room k e = by (eqb k 0) room refl e
  where
    by : (z room : Bool) → eqb k 0 ≡ z → ◌≡◌ {A = ℕ} 0 (cond (not (eqb k 0)) k (cond room 11 0)) → (false ≡ false) × (k ≡ 0) × (room ≡ false)
    by true true q e = absurd (let f : ◌≡◌ {A = ℕ} 0 11 = rw q at e in omega arith)
    by true false q e = (refl, eqb-true k 0 q, refl)
    by false room q e = absurd (eqb-false k 0 q (sym (rw q at e)))

roomy : (a b c : Bool) → a || b || c ≡ false → (a ≡ false) × (b ≡ false) × (c ≡ false)
roomy false false c h = (refl, refl, h)
roomy true b c h = absurd (let z : ◌≡◌ {A = ℕ} 0 1 = cc in omega arith)
roomy false true c h = absurd (let z : ◌≡◌ {A = ℕ} 0 1 = cc in omega arith)

has_room : (s : Sizes) (block : ℕ) → no_room s block ≡ false → (s.weights ≤ 16384) × (s.histories ≤ 16384) × (s.widest * block ≤ 1024)
unfolding no_room
has_room s block e =
    let r = roomy (ltb 16384 s.weights) (ltb 16384 s.histories) (ltb 1024 (s.widest * block)) e in
    (ltb-false _ _ r.0, ltb-false _ _ r.1, ltb-false _ _ r.2)

pub opened_is : {numbers f numbers' : List ℕ} {block : ℕ} {s : Sizes} → Described numbers f block (Ok s) numbers' → Opened numbers' s block
unfolding description_refusal
opened_is {numbers} {f} {numbers'} {block} {s} a =
    let d = words_of (length numbers) f in
    let p = open_only (short_for (length numbers) f) (no_room (sizes_of d) block) (refusal_of d) a.number in
    let e : numbers' ≡ d = rw p.0 at a.unpacked in
    let told : Answers d (Ok s) = record { number = sym p.1; values = rw p.1 a.values } in
    let is = sound_only d told in
    let room = has_room s block (ap (λ (s : Sizes). no_room s block) is.1 ∙ p.2) in
    record { sound = rw e p.1; sizes = rw e is.1; weights = room.0; histories = room.1; planar = room.2 }

-- any two results on a description agree
pub described_agree : {numbers f x y : List ℕ} {block : ℕ} {r s : Checked} → Described numbers f block r x → Described numbers f block s y
    → (number_of r ≡ number_of s) × (values_of r ≡ values_of s) × (x ≡ y)
described_agree {numbers} {f} a b =
    let n = a.number ∙ sym b.number in
    (n, a.values ∙ ap (λ (k : ℕ). cond (eqb k 0) (listed (sizes_of (words_of (length numbers) f))) []) n ∙ sym b.values, a.unpacked ∙ sym b.unpacked)
