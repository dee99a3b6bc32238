-- The pass over a description: its tally after each layer, in closed form. Assumes nothing.
use Rattle.refusal.specs.declared.Refusal.TheVariants.{TooLarge}
use Rattle.std.specs.Prelude.{Err, Ok}
use mathlib.Core.Path.{◌≡◌, refl, sym, ◌∙◌, ap, subst}
use mathlib.Core.Bool.{Bool, true, false, not, ◌||◌}
use mathlib.Core.List.{List, [], ◌∷◌, ◌++◌}
use Prim.Native.Nat.{ℕ, zero, suc, ◌+◌, ◌*◌, ◌-◌, ◌%◌, ◌≤◌, ◌<◌, max}
use native.Mathlib.Nat.{add-zero, mod-one, mul-le-mul, zero-add, zero-max}
use native.Mathlib.Numerals.{add-one}
use native.Mathlib.Omega.{arith}
use lib.Dec.{eqb, ltb}
use Rattle.description.specs.Records.{array_of, layer_of}
use Rattle.description.specs.Parts.{each_layer, head_rechannel_of, part_of, parts_to, rechannel_of, slots_of, uneven_of}
use Rattle.description.specs.Sizes.{array_widths, histories_of, largest, layer_widths, past_of, place_of, positions_of, reach, sum_below, total, weights_of}
use Rattle.description.specs.Ranges.{ArrayRanges, Fits, LayerRanges, Low}
use Rattle.description.specs.Refusals.{most, unmatched_of}
use Rattle.description.specs.Tally.{LowTally, answer_at, count_all, past_all, start_of, with_layer}
use Rattle.description.specs.Tests.{any, any_below}
use Rattle.description.specs.declared.records.ArrayRecord.{ArrayRecord}
use Rattle.description.specs.declared.records.LayerRecord.{LayerRecord}
use Rattle.description.specs.Part.{Part}
use Rattle.description.specs.declared.places.Place.{Place}
use Rattle.description.specs.declared.tally.Counted.{Counted}
use Rattle.description.specs.declared.tally.Tally.{Tally}
use Rattle.description.proofs.Folds.{any_append}
use Rattle.description.proofs.Slots.{rechannel_fits, slot_fits}
use Rattle.description.proofs.Totals.{histories_le, low_on, past-low_all, positions_le, total-append, total_one, weights_le}

abbrev pub origin : Place
origin = record { weights = 0; histories = 0; positions = 0 }

pub origin_low : (b : ℕ) → Low b origin
origin_low b = record { weights = omega arith; histories = omega arith; positions = omega arith }

-- the first part
pub past_origin : (p : Part) → past_of origin p ≡ place_of (p ∷ [])
unfolding past_of place_of total
past_origin p =
    rw (
      zero-add (weights_of p),
      add-zero (weights_of p),
      zero-add (histories_of p),
      add-zero (histories_of p),
      zero-add (positions_of p),
      add-zero (positions_of p),
    )

past_origin_low : (p : Part) → Fits p → Low 0x40_0000 (past_of origin p)
unfolding past_of
past_origin_low p f =
    record { weights = omega (arith, weights_le p f); histories = omega (arith, histories_le p f); positions = omega (arith, positions_le p f) }

pub start_is : (a : ArrayRecord) {place : Place} {widest : ℕ} → place ≡ place_of (rechannel_of a ∷ []) → widest ≡ largest (array_widths a)
    → ◌≡◌ {A = Tally} (record { counted = record { place = place; uneven = false }; unmatched = false; widest = widest; depth = 0 }) (start_of a)
unfolding start_of
start_is a e w =
    rw w
    (ap {A = Place} {B = Tally}
    (λ p. record { counted = record { place = p; uneven = false }; unmatched = false; widest = largest (array_widths a); depth = 0 })
    e)

pub layer_in : (t : Tally) (a : ArrayRecord) (r : LayerRecord) {counted : Counted} {odd : Bool} {widest : ℕ} → counted ≡ count_all t.counted (slots_of a r)
    → odd ≡ unmatched_of a r → widest ≡ max t.widest (largest (layer_widths r))
    → ◌≡◌ {A = Tally} (record { counted = counted; unmatched = t.unmatched || odd; widest = widest; depth = t.depth + reach r }) (with_layer t a r)
unfolding with_layer
layer_in t a r e o w =
    rw (o, w)
    (ap {A = Counted} {B = Tally}
    (λ c.
    record {
      counted = c;
      unmatched = t.unmatched || unmatched_of a r;
      widest = max t.widest (largest (layer_widths r));
      depth = t.depth + reach r;
    })
    e)

pub reach_le : {r : LayerRecord} → LayerRanges r → reach r ≤ 30720
reach_le {r} f = mul-le-mul {n₁ = r.kernel - 1} {m₁ = r.dilation} {n₂ = 15} {m₂ = 2048} (omega (arith, f.kernel.most)) f.dilation.most

-- what the code's two last ways answer
pub too_many : (t : Tally) (place : Place) → t.counted.uneven ≡ false → t.unmatched ≡ false → (ltb most place.weights || ltb most place.histories) ≡ true
    → Err TooLarge ≡ answer_at t place
unfolding answer_at
too_many t place e f g = rw (e, f, g)

pub sound : (t : Tally) (place : Place) → t.counted.uneven ≡ false → t.unmatched ≡ false → (ltb most place.weights || ltb most place.histories) ≡ false
    → Ok (record { weights = place.weights; histories = place.histories; positions = place.positions; widest = t.widest; depth = t.depth })
    ≡ answer_at t place
unfolding answer_at
sound t place e f g = rw (e, f, g)

-- the tally once n layers are in
unfoldable pub tally_at : List ℕ → ℕ → Tally
tally_at d zero = start_of (array_of d)
tally_at d (suc n) = with_layer (tally_at d n) (array_of d) (layer_of d n)

pub place_append : (xs ys : List Part) → past_all (place_of xs) ys ≡ place_of (xs ++ ys)
unfolding past_all place_of
place_append xs ys = rw (total-append weights_of xs ys, total-append histories_of xs ys, total-append positions_of xs ys)

pub past_one : (xs : List Part) (p : Part) → past_of (place_of xs) p ≡ place_of (xs ++ p ∷ [])
unfolding past_of place_of
past_one xs p = rw (total_one weights_of xs p, total_one histories_of xs p, total_one positions_of xs p)

pub largest-append : (xs ys : List ℕ) → largest (xs ++ ys) ≡ max (largest xs) (largest ys)
unfolding largest
largest-append [] ys = sym (zero-max (largest ys))
largest-append (x ∷ xs) ys = rw (largest-append xs ys) (omega arith)

-- one group divides
pub one_group : (ins outs : ℕ) → (not (eqb (ins % 1) 0) || not (eqb (outs % 1) 0)) ≡ false
one_group ins outs = rw (mod-one ins, mod-one outs)

rechannel_even : (a : ArrayRecord) → false ≡ any uneven_of (rechannel_of a ∷ [])
unfolding any uneven_of rechannel_of
rechannel_even a = sym (rw (one_group a.input a.channels))

pub head_rechannel_even : (a : ArrayRecord) → uneven_of (head_rechannel_of a) ≡ false
unfolding uneven_of head_rechannel_of
head_rechannel_even a = one_group a.head_in a.head_size

module _ (d : List ℕ) where
  slots : ℕ → List Part
  slots l = slots_of (array_of d) (layer_of d l)

  pub place_reached : (n : ℕ) → (tally_at d n).counted.place ≡ place_of (parts_to d n)
  unfolding tally_at start_of with_layer count_all parts_to each_layer slots
  place_reached zero = refl
  place_reached (suc n) =
      ap {A = Place} {B = Place} (λ p. past_all p (slots n)) (place_reached n) ∙ place_append (rechannel_of (array_of d) ∷ each_layer slots n) (slots n)

  pub uneven_at : (n : ℕ) → (tally_at d n).counted.uneven ≡ any uneven_of (parts_to d n)
  unfolding tally_at start_of with_layer count_all parts_to each_layer slots
  uneven_at zero = rechannel_even (array_of d)
  uneven_at (suc n) = rw (uneven_at n) (sym (any_append uneven_of (rechannel_of (array_of d) ∷ each_layer slots n) (slots n)))

  pub unmatched_at : (n : ℕ) → (tally_at d n).unmatched ≡ any_below n (λ l. unmatched_of (array_of d) (layer_of d l))
  unfolding tally_at start_of with_layer any_below
  unmatched_at zero = refl
  unmatched_at (suc n) = rw (unmatched_at n)

  pub widest_at : (n : ℕ) → (tally_at d n).widest ≡ largest (array_widths (array_of d) ++ each_layer (λ l. layer_widths (layer_of d l)) n)
  unfolding tally_at start_of with_layer each_layer
  widest_at zero = refl
  widest_at (suc n) = rw (widest_at n) (sym (largest-append (array_widths (array_of d) ++ each_layer (λ l. layer_widths (layer_of d l)) n) (layer_widths (layer_of d n))))

  pub depth_at : (n : ℕ) → (tally_at d n).depth ≡ sum_below n (λ l. reach (layer_of d l))
  unfolding tally_at start_of with_layer sum_below
  depth_at zero = refl
  depth_at (suc n) = rw (depth_at n)

-- n layers in range leave the tally low
pub low-at : (d : List ℕ) → ArrayRanges (array_of d) → (n : ℕ) → ((l : ℕ) → l < n → LayerRanges (layer_of d l))
    → Low (0x40_0000 + n * 0x300_0000) (tally_at d n).counted.place
unfolding tally_at start_of with_layer count_all slots_of part_of
low-at d fa zero h =
    low_on
    (subst (λ (p : Place). Low 0x40_0000 p) (past_origin (rechannel_of (array_of d))) (past_origin_low (rechannel_of (array_of d)) (rechannel_fits fa)))
    (omega arith)
low-at d fa (suc n) h =
    low_on
    (past-low_all (0x40_0000 + n * 0x300_0000) (tally_at d n).counted.place (slots_of (array_of d) (layer_of d n))
    (low-at d fa n (λ l lt. h l (omega arith)))
    (slot_fits fa (h n (omega arith))))
    (omega arith)

pub depth_low : (d : List ℕ) (n : ℕ) → ((l : ℕ) → l < n → LayerRanges (layer_of d l)) → (tally_at d n).depth ≤ n * 30720
unfolding tally_at start_of with_layer
depth_low d zero h = omega arith
depth_low d (suc n) h = omega (arith, depth_low d n (λ l lt. h l (omega arith)), reach_le (h n (omega arith)))

pub tally_low : (d : List ℕ) → ArrayRanges (array_of d) → (n : ℕ) → n ≤ 24 → ((l : ℕ) → l < n → LayerRanges (layer_of d l)) → LowTally (tally_at d n)
tally_low d fa n le h =
    record { place = low_on (low-at d fa n h) (omega arith); depth = omega (arith, depth_low d n h) }

pub tally_step : (d : List ℕ) (n : ℕ) {t : Tally} {a : ArrayRecord} {r : LayerRecord} → t ≡ tally_at d n → a ≡ array_of d → r ≡ layer_of d n → with_layer t a r ≡ tally_at d (n + 1)
unfolding tally_at
tally_step d n {t} {a} {r} e f g =
    rw add-one
    (ap (λ (t : Tally). with_layer t a r) e
    ∙ ap (λ (a : ArrayRecord). with_layer (tally_at d n) a r) f
    ∙ ap (λ (r : LayerRecord). with_layer (tally_at d n) (array_of d) r) g)
