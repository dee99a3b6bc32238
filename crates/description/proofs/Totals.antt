-- Laws on counts over a list of parts: end to end, one part more, and bounds. Assumes nothing.
use Rattle.std.specs.Prelude.{None, Some}
use mathlib.Core.Path.{◌≡◌, refl, sym, ◌∙◌, ap, subst}
use mathlib.Core.Bool.{Bool, or_assoc, or-false, ◌||◌}
use mathlib.Core.List.{List, [], ◌∷◌, ◌++◌}
use Prim.Native.Nat.{ℕ, zero, suc, ◌+◌, ◌*◌, ◌≤◌, ◌<◌}
use native.Mathlib.Nat.{add_assoc, add-zero, suc-mul, zero-add}
use native.Mathlib.Numerals.{add-one}
use native.Mathlib.Omega.{arith}
use lib.ListN.{get_or, length, take}
use lib.Seq.{take_all, take-length, take-suc}
use Rattle.shape.proofs.Bounds.{history_count_le, weight_le}
use Rattle.description.specs.Parts.{uneven_of}
use Rattle.description.specs.Sizes.{histories_of, past_of, positions_of, total, weights_of}
use Rattle.description.specs.Ranges.{Fits, Low}
use Rattle.description.specs.Tally.{count_all, past_all}
use Rattle.description.specs.Tests.{any}
use Rattle.description.specs.Part.{Part}
use Rattle.description.specs.declared.places.Place.{Place}
use Rattle.description.specs.declared.tally.Counted.{Counted}
use Rattle.description.proofs.Folds.{any_append}

pub total-append : (f : Part → ℕ) (xs ys : List Part) → total f (xs ++ ys) ≡ total f xs + total f ys
unfolding total
total-append f [] ys = sym (zero-add (total f ys))
total-append f (x ∷ xs) ys = rw (total-append f xs ys) (sym (add_assoc (f x) (total f xs) (total f ys)))

pub total_one : (f : Part → ℕ) (xs : List Part) (p : Part) → total f (xs ++ p ∷ []) ≡ total f xs + f p
unfolding total
total_one f xs p = total-append f xs (p ∷ []) ∙ ap (λ (n : ℕ). total f xs + n) (add-zero (f p))

-- a part more
pub total-take : (f : Part → ℕ) (ps : List Part) (k : ℕ) → k < length ps → total f (take (k + 1) ps) ≡ total f (take k ps) + f (get_or ps k None)
total-take f ps k lt = rw (add-one, take-suc ps k None lt) (total_one f (take k ps) (get_or ps k None))

-- no part counts more than b: k parts count no more than k b
pub take_le : (f : Part → ℕ) (b : ℕ) (ps : List Part) → ((i : ℕ) → f (get_or ps i None) ≤ b) → (k : ℕ) → total f (take k ps) ≤ k * b
unfolding total
take_le f b ps h zero = omega arith
take_le f b [] h (suc k) = omega arith
take_le f b (p ∷ ps) h (suc k) = rw (suc-mul k b) (omega (arith, h 0, take_le f b ps (λ i. h (suc i)) k))

pub total_le : (f : Part → ℕ) (b : ℕ) (ps : List Part) → ((i : ℕ) → f (get_or ps i None) ≤ b) → total f ps ≤ length ps * b
total_le f b ps h = rw (take-length ps) at (take_le f b ps h (length ps))

-- what a part in range counts
pub weights_le : (p : Part) → Fits p → weights_of p ≤ 0x40_0000
unfolding weights_of
weights_le None f = omega arith
weights_le (Some sh) f = omega (arith, weight_le (f.shape sh refl))

pub histories_le : (p : Part) → Fits p → histories_of p ≤ 0x40_0000
unfolding histories_of
histories_le None f = omega arith
histories_le (Some sh) f = omega (arith, history_count_le (f.shape sh refl))

pub positions_le : (p : Part) → Fits p → positions_of p ≤ 0x40_0000
unfolding positions_of
positions_le None f = omega arith
positions_le (Some sh) f = omega arith

-- a part more, past the first k of a list
pub past-take : (place : Place) (ps : List Part) (k : ℕ) → k < length ps → past_of (past_all place (take k ps)) (get_or ps k None) ≡ past_all place (take (k + 1) ps)
unfolding past_of past_all
past-take place ps k lt =
    rw (
      total-take weights_of ps k lt,
      total-take histories_of ps k lt,
      total-take positions_of ps k lt,
      add_assoc place.weights (total weights_of (take k ps)) (weights_of (get_or ps k None)),
      add_assoc place.histories (total histories_of (take k ps)) (histories_of (get_or ps k None)),
      add_assoc place.positions (total positions_of (take k ps)) (positions_of (get_or ps k None)),
    )

pub past-none : (place : Place) → place ≡ past_all place []
unfolding past_all total
past-none place = rw (add-zero place.weights, add-zero place.histories, add-zero place.positions)

-- one test more
pub odd_take : (b : Bool) (ps : List Part) (k : ℕ) → k < length ps
    → (b || any uneven_of (take k ps) || uneven_of (get_or ps k None)) ≡ (b || any uneven_of (take (k + 1) ps))
unfolding any
odd_take b ps k lt =
    rw (add-one, take-suc ps k None lt, any_append uneven_of (take k ps) (get_or ps k None ∷ []), or-false (uneven_of (get_or ps k None)))
    (or_assoc b (any uneven_of (take k ps)) (uneven_of (get_or ps k None)))

-- past the first k parts the place is low
pub past-low : (bound : ℕ) (place : Place) (ps : List Part) → Low bound place → ((i : ℕ) → Fits (get_or ps i None)) → (k : ℕ)
    → Low (bound + k * 0x40_0000) (past_all place (take k ps))
unfolding past_all
past-low bound place ps low fits k =
    record {
      weights = omega (arith, low.weights, take_le weights_of 0x40_0000 ps (λ i. weights_le (get_or ps i None) (fits i)) k);
      histories = omega (arith, low.histories, take_le histories_of 0x40_0000 ps (λ i. histories_le (get_or ps i None) (fits i)) k);
      positions = omega (arith, low.positions, take_le positions_of 0x40_0000 ps (λ i. positions_le (get_or ps i None) (fits i)) k);
    }

pub low_on : {a b : ℕ} {place : Place} → Low a place → a ≤ b → Low b place
low_on l h = record { weights = omega (arith, l.weights); histories = omega (arith, l.histories); positions = omega (arith, l.positions) }

-- the whole list, once the count is reached
pub count_end : (start : Counted) (ps : List Part) (k : ℕ) (place : Place) (odd : Bool) → place ≡ past_all start.place (take k ps)
    → odd ≡ (start.uneven || any uneven_of (take k ps)) → length ps ≤ k → ◌≡◌ {A = Counted} (record { place = place; uneven = odd }) (count_all start ps)
unfolding count_all
count_end start ps k place odd e o le =
    rw (o, take_all k ps le)
    (ap {A = Place} {B = Counted} (λ p. record { place = p; uneven = start.uneven || any uneven_of ps }) (rw (take_all k ps le) at e))

pub past-low_all : (bound : ℕ) (place : Place) (ps : List Part) → Low bound place → ((i : ℕ) → Fits (get_or ps i None))
    → Low (bound + length ps * 0x40_0000) (past_all place ps)
past-low_all bound place ps low fits =
    subst (λ (q : List Part). Low (bound + length ps * 0x40_0000) (past_all place q)) (take-length ps) (past-low bound place ps low fits (length ps))
