-- The answers of a layer's reading and of the whole check, from what the tests told. Assumes nothing.
use Rattle.std.specs.Prelude.{Err, Ok}
use mathlib.Core.Path.{◌≡◌, refl, sym, ◌∙◌, ap, subst}
use mathlib.Core.Bool.{Bool, true, false, cond, or-false, or-true}
use mathlib.Core.List.{List, [], ◌∷◌}
use Prim.Native.Nat.{ℕ, ◌+◌, ◌≤◌, ◌<◌}
use native.Mathlib.Numerals.{add-one}
use native.Mathlib.Omega.{arith}
use lib.Dec.{eqb, ltb}
use lib.ListN.{length}
use borrow.Author.Tests.{eq-eqb, le-ltb, lt-ltb, ne_eqb}
use Rattle.description.specs.Numbers.{head_length, layer_count, record_at}
use Rattle.description.specs.Tests.{any, any_below}
use Rattle.description.specs.Limits.{array_limits, breaks_range, layer_limits}
use Rattle.description.specs.ZeroRules.{breaks_zero_rule}
use Rattle.description.specs.Records.{array_of, layer_of}
use Rattle.description.specs.Parts.{head_rechannel_of, parts_of, parts_to, uneven_of}
use Rattle.description.specs.Sizes.{depth_of, past_of, place_of, sizes_of, widest_of}
use Rattle.description.specs.Ranges.{LayerRanges}
use Rattle.description.specs.Refusals.{breaks_layer, refusal_of, refused1, refused2, refused3, refused4, refused5}
use Rattle.description.specs.Answers.{Answers, LayerAnswers, listed, records_of, values_of}
use Rattle.refusal.specs.Number.{number, number_of}
use Rattle.refusal.specs.declared.Refusal.TheVariants.{DescriptionLength, Range, Groups, Widths, TooLarge}
use Rattle.description.specs.Tally.{answer_at, answer_of}
use Rattle.description.specs.declared.records.LayerRecord.{LayerRecord}
use Rattle.description.specs.declared.records.ArrayRecord.{ArrayRecord}
use Rattle.description.specs.declared.places.Place.{Place}
use Rattle.description.specs.declared.tally.Tally.{Tally}
use Rattle.description.specs.declared.answers.Sizes.{Sizes}
use Rattle.description.specs.Checked.{Checked, LayerAnswer}
use Rattle.refusal.specs.declared.Refusal.{Refusal}
use Rattle.refusal.proofs.Named.{number_above, same_number}
use Rattle.description.proofs.Folds.{any_append, none_below, some_below}
use Rattle.description.proofs.Ranging.{layer_ranges}
use Rattle.description.proofs.Passing.{depth_at, head_rechannel_even, past_one, place_reached, tally_at, uneven_at, unmatched_at, widest_at}

not_broken : {r s : LayerRecord} (b : Bool) → ◌≡◌ {A = ℕ} 0 (cond b 2 0) → r ∷ [] ≡ cond b [] (s ∷ []) → (b ≡ false) × (r ≡ s)
not_broken false n v = (refl, cc)
not_broken true n v = absurd (omega arith)

refused_broken : (b : Bool) {n : ℕ} → 0 < n → n ≡ cond b 2 0 → b ≡ true
refused_broken true above n = refl
refused_broken false above n = absurd (omega arith)

is_broken : (b : Bool) → ◌≡◌ {A = ℕ} 2 (cond b 2 0) → b ≡ true
is_broken true n = refl
is_broken false n = absurd (omega arith)

module _ (d : List ℕ) (l : ℕ) where
  broken : breaks_layer d l ≡ true → LayerAnswers d l (Err Range)
  unfolding records_of
  broken e = record { number = rw e; values = rw e }

  pub broken_range : breaks_range layer_limits d (record_at l) ≡ true → LayerAnswers d l (Err Range)
  unfolding breaks_layer
  broken_range e = broken (rw e)

  pub broken_zeros : breaks_zero_rule d (record_at l) ≡ true → LayerAnswers d l (Err Range)
  unfolding breaks_layer
  broken_zeros e = broken (rw e (or-true (breaks_range layer_limits d (record_at l))))

  pub whole : {r : LayerRecord} → breaks_range layer_limits d (record_at l) ≡ false → breaks_zero_rule d (record_at l) ≡ false → r ≡ layer_of d l → LayerAnswers d l (Ok r)
  unfolding breaks_layer records_of
  whole e f q = record { number = rw (e, f); values = rw (e, f) (ap (λ (r : LayerRecord). r ∷ []) q) }

  -- and back: what an answer tells
  pub read_whole : {r : LayerRecord} → LayerAnswers d l (Ok r) → (breaks_layer d l ≡ false) × (r ≡ layer_of d l)
  unfolding records_of
  read_whole a = not_broken (breaks_layer d l) a.number a.values

  pub read_broken : LayerAnswers d l (Err Range) → breaks_layer d l ≡ true
  read_broken a = is_broken (breaks_layer d l) a.number

-- the answer that the definitions give
unfoldable pub checked_of : List ℕ → Checked
checked_of d =
    cond (refused1 d) (Err DescriptionLength)
    (cond (refused2 d) (Err Range)
    (cond (refused3 d) (Err Groups) (cond (refused4 d) (Err Widths) (cond (refused5 d) (Err TooLarge) (Ok (sizes_of d))))))

-- number and values, whatever the five tests say
number_by : (a b c e f : Bool) (s : Sizes)
    → number_of (cond a (Err DescriptionLength) (cond b (Err Range) (cond c (Err Groups) (cond e (Err Widths) (cond f (Err TooLarge) (Ok s))))))
    ≡ cond a 1 (cond b 2 (cond c 3 (cond e 4 (cond f 5 0))))
number_by true b c e f s = refl
number_by false true c e f s = refl
number_by false false true e f s = refl
number_by false false false true f s = refl
number_by false false false false true s = refl
number_by false false false false false s = refl

values_by : (a b c e f : Bool) (s : Sizes)
    → values_of (cond a (Err DescriptionLength) (cond b (Err Range) (cond c (Err Groups) (cond e (Err Widths) (cond f (Err TooLarge) (Ok s))))))
    ≡ cond (eqb (cond a 1 (cond b 2 (cond c 3 (cond e 4 (cond f 5 0))))) 0) (listed s) []
unfolding values_of
values_by true b c e f s = refl
values_by false true c e f s = refl
values_by false false true e f s = refl
values_by false false false true f s = refl
values_by false false false false true s = refl
values_by false false false false false s = refl

pub checked_answers : (d : List ℕ) → Answers d (checked_of d)
unfolding checked_of refusal_of
checked_answers d =
    record {
      number = number_by (refused1 d) (refused2 d) (refused3 d) (refused4 d) (refused5 d) (sizes_of d);
      values = values_by (refused1 d) (refused2 d) (refused3 d) (refused4 d) (refused5 d) (sizes_of d);
    }

pub answers_by : (d : List ℕ) {r : Checked} → r ≡ checked_of d → Answers d r
answers_by d e = subst (Answers d) (sym e) (checked_answers d)

-- refusal 1: too short for the head, or of another length than its L asks
pub short : (d : List ℕ) → length d < head_length → Answers d (Err DescriptionLength)
unfolding checked_of refused1
short d lt = answers_by d (rw (lt-ltb (length d) head_length lt))

pub mislaid : (d : List ℕ) → (length d ≡ record_at (layer_count d) → ⊥) → Answers d (Err DescriptionLength)
unfolding checked_of refused1
mislaid d ne = answers_by d (rw (ne_eqb (length d) (record_at (layer_count d)) ne, or-true (ltb (length d) head_length)))

pub long_enough : (d : List ℕ) → head_length ≤ length d → length d ≡ record_at (layer_count d) → refused1 d ≡ false
unfolding refused1
long_enough d le e = rw (le-ltb (length d) head_length le, eq-eqb (length d) (record_at (layer_count d)) e)

-- refusal 2: a number of the array, or of a layer
pub broken_array : (d : List ℕ) → refused1 d ≡ false → breaks_range array_limits d 0 ≡ true → Answers d (Err Range)
unfolding checked_of refused2
broken_array d e f = answers_by d (rw (e, f))

pub broken_layer : (d : List ℕ) (l : ℕ) → refused1 d ≡ false → l < layer_count d → breaks_layer d l ≡ true → Answers d (Err Range)
unfolding checked_of refused2
broken_layer d l e lt f =
    answers_by d (rw (e, some_below (layer_count d) (breaks_layer d) l lt f, or-true (breaks_range array_limits d 0)))

-- a layer's refusal is the description's
pub layer_refused : (d : List ℕ) (l : ℕ) {refusal : Refusal} {r : LayerAnswer} → refused1 d ≡ false → l < layer_count d → LayerAnswers d l r → r ≡ Err refusal
    → Answers d (Err refusal)
layer_refused d l {refusal} e lt a is =
    let number_is : number refusal ≡ cond (breaks_layer d l) 2 0 = subst (λ (x : LayerAnswer). number_of x ≡ cond (breaks_layer d l) 2 0) is a.number in
    let b = refused_broken (breaks_layer d l) (number_above refusal) number_is in
    subst (λ (x : Refusal). Answers d (Err x)) (same_number {r = Range} {s = refusal} (sym (rw b at number_is))) (broken_layer d l e lt b)

-- a layer that is not broken, after those before it
pub kept_more : (d : List ℕ) (l : ℕ) → any_below l (breaks_layer d) ≡ false → breaks_layer d l ≡ false → any_below (l + 1) (breaks_layer d) ≡ false
unfolding any_below
kept_more d l e f = rw (add-one, e, f)

pub kept_layer : (d : List ℕ) (n : ℕ) → any_below n (breaks_layer d) ≡ false → (l : ℕ) → l < n → LayerRanges (layer_of d l)
kept_layer d n e l lt = layer_ranges d l (none_below n (breaks_layer d) e l lt)

-- refusals 3 to 5, and none: from the tally of all layers
module _ (d : List ℕ) where
  last_place : past_of (tally_at d (layer_count d)).counted.place (head_rechannel_of (array_of d)) ≡ place_of (parts_of d)
  unfolding parts_of
  last_place =
      ap {A = Place} {B = Place} (λ p. past_of p (head_rechannel_of (array_of d))) (place_reached d (layer_count d))
      ∙ past_one (parts_to d (layer_count d)) (head_rechannel_of (array_of d))

  third : (tally_at d (layer_count d)).counted.uneven ≡ refused3 d
  unfolding refused3 parts_of any
  third =
      uneven_at d (layer_count d)
      ∙ sym (any_append uneven_of (parts_to d (layer_count d)) (head_rechannel_of (array_of d) ∷ []) ∙ rw (head_rechannel_even (array_of d)) (or-false (any uneven_of (parts_to d (layer_count d)))))

  fourth : (tally_at d (layer_count d)).unmatched ≡ refused4 d
  unfolding refused4
  fourth = unmatched_at d (layer_count d)

  pub tallied : refused1 d ≡ false → refused2 d ≡ false → answer_of (tally_at d (layer_count d)) (array_of d) ≡ checked_of d
  unfolding checked_of answer_of answer_at refused5 sizes_of widest_of depth_of place_of
  tallied e f =
      ap (answer_at (tally_at d (layer_count d))) last_place
      ∙ rw (e, f, third, fourth, widest_at d (layer_count d), depth_at d (layer_count d))

pub whole_answer : (d : List ℕ) (n : ℕ) → n ≡ layer_count d → refused1 d ≡ false → breaks_range array_limits d 0 ≡ false → any_below n (breaks_layer d) ≡ false
    → {t : Tally} {a : ArrayRecord} {r : Checked} → r ≡ answer_of t a → t ≡ tally_at d n → a ≡ array_of d → Answers d r
unfolding refused2
whole_answer d n e one range kept {t} {a} q te ae =
    answers_by d
    (q
    ∙ ap (λ (t : Tally). answer_of t a) (te ∙ ap (tally_at d) e)
    ∙ ap (answer_of (tally_at d (layer_count d))) ae
    ∙ tallied d one (rw (range, rw e at kept)))
