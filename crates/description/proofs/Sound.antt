-- What holds of a description that the check lets through: what the crates above rest on. Assumes nothing.
use Rattle.std.specs.Prelude.{None, Some}
use mathlib.Core.Path.{◌≡◌, refl, sym, ◌∙◌, ap, subst}
use mathlib.Core.Bool.{Bool, true, false, cond, not, ◌&&◌}
use mathlib.Core.List.{List, [], ◌∷◌, ◌++◌}
use Prim.Native.Nat.{ℕ, zero, suc, ◌+◌, ◌-◌, ◌*◌, ◌/◌, ◌%◌, ◌≤◌, ◌<◌}
use native.Mathlib.Nat.{add_comm, le-max_left, le-max_right, max-le}
use native.Mathlib.Numerals.{add-one}
use native.Mathlib.Omega.{arith}
use lib.Dec.{eqb, ltb}
use lib.ListN.{get_or, length, length-append, take, get_or-append}
use lib.Seq.{get_or-append_seam, take-suc}
use borrow.Author.Tests.{eq-eqb, eqb-true, ltb-false, not-false}
use Rattle.shape.specs.declared.Shape.{Shape}
use Rattle.shape.specs.Groups.{Divided}
use Rattle.description.specs.Numbers.{head_length, layer_count, record_at}
use Rattle.description.specs.Tests.{any_below}
use Rattle.description.specs.Limits.{array_limits, breaks_range}
use Rattle.description.specs.Records.{array_of, layer_of}
use Rattle.description.specs.Parts.{each_layer, head_rechannel_of, part_of, parts_of, parts_to, rechannel_of, slots_of, uneven_of}
use Rattle.description.specs.Sizes.{array_widths, histories_of, largest, layer_widths, past_of, place_at, place_of, positions_of, total, weights_of, widest_of}
use Rattle.description.specs.Ranges.{ArrayRanges, Between, Fits, LayerRanges}
use Rattle.description.specs.Refusals.{breaks_layer, head_width, most, refusal_of, refused1, refused2, refused3, refused4, refused5, unmatched_of}
use Rattle.description.specs.declared.records.ArrayRecord.{ArrayRecord}
use Rattle.description.specs.Part.{Part}
use Rattle.description.proofs.Folds.{each_at, left_false, length_each, none_below, none_of, right_false}
use Rattle.description.proofs.Passing.{largest-append, past_one}
use Rattle.description.proofs.Ranging.{array_ranges, layer_ranges, layers_between}
use Rattle.description.proofs.Totals.{total_le}
use Rattle.description.proofs.Slots.{fits_absent, head_rechannel_fits, mid_range, rechannel_fits, slot_fits}

get_d_one : (p : Part) (ps : List Part) (i : ℕ) → get_or (p ∷ ps) (1 + i) None ≡ get_or ps i None
get_d_one p ps i = rw (add_comm 1 i, add-one)

-- the list of parts by number, refused or not
module _ (d : List ℕ) where
  slots : ℕ → List Part
  slots l = slots_of (array_of d) (layer_of d l)

  twelve : (l : ℕ) → length (slots l) ≡ 12
  unfolding slots slots_of
  twelve l = refl

  length_to : (n : ℕ) → length (parts_to d n) ≡ 12 * n + 1
  unfolding parts_to slots
  length_to n = rw (length_each slots 12 twelve n) (omega arith)

  pub length-parts : length (parts_of d) ≡ 12 * layer_count d + 2
  unfolding parts_of
  length-parts =
      length-append (parts_to d (layer_count d)) (head_rechannel_of (array_of d) ∷ []) ∙ rw (length_to (layer_count d)) (omega arith)

  pub part_first : get_or (parts_of d) 0 None ≡ rechannel_of (array_of d)
  unfolding parts_of parts_to
  part_first = refl

  pub part_slot : (l k : ℕ) → l < layer_count d → k < 12 → get_or (parts_of d) (1 + (12 * l + k)) None ≡ part_of (array_of d) (layer_of d l) k
  unfolding parts_of parts_to part_of slots
  part_slot l k lt kt =
      let inner : 12 * l + k < length (each_layer slots (layer_count d)) = rw (length_each slots 12 twelve (layer_count d)) (omega arith) in
      get_d_one (rechannel_of (array_of d)) (each_layer slots (layer_count d) ++ head_rechannel_of (array_of d) ∷ []) (12 * l + k)
      ∙ get_or-append (each_layer slots (layer_count d)) (head_rechannel_of (array_of d) ∷ []) None (12 * l + k) inner
      ∙ each_at slots 12 twelve None (layer_count d) l k lt kt

  pub part_last : get_or (parts_of d) (12 * layer_count d + 1) None ≡ head_rechannel_of (array_of d)
  unfolding parts_of
  part_last =
      rw (← length_to (layer_count d)) (get_or-append_seam (parts_to d (layer_count d)) (head_rechannel_of (array_of d)) [] None)

  -- the same by the number alone
  pub number_first : (i : ℕ) → i ≡ 0 → rechannel_of (array_of d) ≡ get_or (parts_of d) i None
  number_first i z = sym part_first ∙ ap (λ (i : ℕ). get_or (parts_of d) i None) (sym z)

  pub number_slot : (i : ℕ) → (i ≡ 0 → ⊥) → ((i - 1) / 12 ≡ layer_count d → ⊥) → i < 12 * layer_count d + 2
      → part_of (array_of d) (layer_of d ((i - 1) / 12)) ((i - 1) % 12) ≡ get_or (parts_of d) i None
  number_slot i nz nl lt =
      let e : 1 + (12 * ((i - 1) / 12) + (i - 1) % 12) ≡ i = omega arith in
      sym (part_slot ((i - 1) / 12) ((i - 1) % 12) (omega arith) (omega arith)) ∙ ap (λ (i : ℕ). get_or (parts_of d) i None) e

  pub number_last : (i : ℕ) → (i ≡ 0 → ⊥) → (i - 1) / 12 ≡ layer_count d → i < 12 * layer_count d + 2 → head_rechannel_of (array_of d) ≡ get_or (parts_of d) i None
  number_last i nz l lt =
      let e : 12 * layer_count d + 1 ≡ i = omega arith in sym part_last ∙ ap (λ (i : ℕ). get_or (parts_of d) i None) e

  -- the place of the next part is the place past this one
  pub place_next : (i : ℕ) → i < length (parts_of d) → place_at d (i + 1) ≡ past_of (place_at d i) (get_or (parts_of d) i None)
  unfolding place_at
  place_next i lt = rw (add-one, take-suc (parts_of d) i None lt) (sym (past_one (take i (parts_of d)) (get_or (parts_of d) i None)))

when_true : {a b : Bool} → a ≡ true → (a && b) ≡ false → b ≡ false
when_true {a} {b} e f = rw e at f

-- none of the five tests holds where the number is 0
pub record Passed (a b c e f : Bool) : Type 0 where
  pub first : a ≡ false
  pub second : b ≡ false
  pub third : c ≡ false
  pub fourth : e ≡ false
  pub fifth : f ≡ false

passed : (a b c e f : Bool) → ◌≡◌ {A = ℕ} (cond a 1 (cond b 2 (cond c 3 (cond e 4 (cond f 5 0))))) 0 → Passed a b c e f
passed false false false false false z = record { first = refl; second = refl; third = refl; fourth = refl; fifth = refl }
passed true b c e f z = absurd (omega arith)
passed false true c e f z = absurd (omega arith)
passed false false true e f z = absurd (omega arith)
passed false false false true f z = absurd (omega arith)
passed false false false false true z = absurd (omega arith)

-- groups of a part that is not uneven divide both sides
pub even_divided : {p : Part} {sh : Shape} → uneven_of p ≡ false → p ≡ Some sh → Divided sh
unfolding uneven_of
even_divided {p} {sh} e q =
    let h : uneven_of (Some sh) ≡ false = subst (λ (p : Part). uneven_of p ≡ false) q e in
    record {
      ins_whole = eqb-true (sh.ins % sh.groups) 0 (not-false (eqb (sh.ins % sh.groups) 0) (left_false (not (eqb (sh.ins % sh.groups) 0)) (not (eqb (sh.outs % sh.groups) 0)) h));
      outs_whole = eqb-true (sh.outs % sh.groups) 0 (not-false (eqb (sh.outs % sh.groups) 0) (right_false (not (eqb (sh.ins % sh.groups) 0)) (not (eqb (sh.outs % sh.groups) 0)) h));
    }

-- what stands in a list is no larger than its largest
pub le_largest : (xs : List ℕ) (i : ℕ) → get_or xs i 0 ≤ largest xs
unfolding largest
le_largest [] i = omega arith
le_largest (x ∷ xs) zero = le-max_left x (largest xs)
le_largest (x ∷ xs) (suc i) = omega (arith, le_largest xs i, le-max_right x (largest xs))

nothing : (f : Part → ℕ) (i : ℕ) → total f (take i []) ≡ 0
unfolding total
nothing f zero = refl
nothing f (suc i) = refl

-- the part at a number with those before it counts no more than all
pub within : (f : Part → ℕ) → f None ≡ 0 → (ps : List Part) (i : ℕ) → total f (take i ps) + f (get_or ps i None) ≤ total f ps
unfolding total
within f z [] i = omega (arith, nothing f i, z)
within f z (p ∷ ps) zero = omega arith
within f z (p ∷ ps) (suc i) = omega (arith, within f z ps i)

none-largest : largest [] ≤ 64
unfolding largest
none-largest = omega arith

at_most_one : (p : Part) → positions_of p ≤ 1
unfolding positions_of
at_most_one None = omega arith
at_most_one (Some sh) = omega arith

-- every part of a list fits
abbrev AllFit : List Part → Type 0
AllFit ps = (i : ℕ) → Fits (get_or ps i None)

both_fit : (xs ys : List Part) → AllFit xs → AllFit ys → AllFit (xs ++ ys)
both_fit [] ys f g i = g i
both_fit (x ∷ xs) ys f g zero = f 0
both_fit (x ∷ xs) ys f g (suc i) = both_fit xs ys (λ j. f (suc j)) g i

one_fits : (p : Part) → Fits p → AllFit (p ∷ [])
one_fits p f zero = f
one_fits p f (suc i) = fits_absent

each_fits : (f : ℕ → List Part) (n : ℕ) → ((l : ℕ) → l < n → AllFit (f l)) → AllFit (each_layer f n)
unfolding each_layer
each_fits f zero h = λ i. fits_absent
each_fits f (suc n) h = both_fit (each_layer f n) (f n) (each_fits f n (λ l lt. h l (omega arith))) (h n (omega arith))

module _ (d : List ℕ) (ok : refusal_of d ≡ 0) where
  tests : Passed (refused1 d) (refused2 d) (refused3 d) (refused4 d) (refused5 d)
  unfolding refusal_of
  tests = passed (refused1 d) (refused2 d) (refused3 d) (refused4 d) (refused5 d) ok

  pub length_is : length d ≡ record_at (layer_count d)
  unfolding refused1
  length_is =
      eqb-true (length d) (record_at (layer_count d))
      (not-false (eqb (length d) (record_at (layer_count d))) (right_false (ltb (length d) head_length) (not (eqb (length d) (record_at (layer_count d)))) tests.first))

  array_kept : breaks_range array_limits d 0 ≡ false
  unfolding refused2
  array_kept = left_false (breaks_range array_limits d 0) (any_below (layer_count d) (breaks_layer d)) tests.second

  layers_kept : any_below (layer_count d) (breaks_layer d) ≡ false
  unfolding refused2
  layers_kept = right_false (breaks_range array_limits d 0) (any_below (layer_count d) (breaks_layer d)) tests.second

  pub layers_are : Between 1 24 (layer_count d)
  layers_are = layers_between d array_kept

  pub array_in_range : ArrayRanges (array_of d)
  array_in_range = array_ranges d array_kept

  pub layer_in_range : (l : ℕ) → l < layer_count d → LayerRanges (layer_of d l)
  layer_in_range l lt = layer_ranges d l (none_below (layer_count d) (breaks_layer d) layers_kept l lt)

  -- every part by its number: its shape is in range, and its groups divide
  pub slot_in_range : (l k : ℕ) → l < layer_count d → Fits (part_of (array_of d) (layer_of d l) k)
  slot_in_range l k lt = slot_fits array_in_range (layer_in_range l lt) k

  pub part_even : (i : ℕ) → uneven_of (get_or (parts_of d) i None) ≡ false
  unfolding refused3 uneven_of
  part_even i = none_of uneven_of None (parts_of d) tests.third refl i

  pub part_divided : (i : ℕ) {sh : Shape} → get_or (parts_of d) i None ≡ Some sh → Divided sh
  part_divided i e = even_divided (part_even i) e

  pub part_in_range : (i : ℕ) → Fits (get_or (parts_of d) i None)
  unfolding parts_of parts_to slots_of part_of
  part_in_range =
      both_fit (parts_to d (layer_count d)) (head_rechannel_of (array_of d) ∷ [])
      (both_fit (rechannel_of (array_of d) ∷ []) (each_layer (λ l. slots_of (array_of d) (layer_of d l)) (layer_count d))
      (one_fits (rechannel_of (array_of d)) (rechannel_fits array_in_range))
      (each_fits (λ l. slots_of (array_of d) (layer_of d l)) (layer_count d) (λ l lt k. slot_in_range l k lt)))
      (one_fits (head_rechannel_of (array_of d)) (head_rechannel_fits array_in_range))

  -- a layer's widths meet: without a layer1x1 the bottleneck is channels wide, and its head width is head_in
  matched : (l : ℕ) → l < layer_count d → unmatched_of (array_of d) (layer_of d l) ≡ false
  unfolding refused4
  matched l lt = none_below (layer_count d) (λ l. unmatched_of (array_of d) (layer_of d l)) tests.fourth l lt

  pub head_width_is : (l : ℕ) → l < layer_count d → head_width (layer_of d l) ≡ (array_of d).head_in
  unfolding unmatched_of
  head_width_is l lt =
      eqb-true (head_width (layer_of d l)) (array_of d).head_in
      (not-false (eqb (head_width (layer_of d l)) (array_of d).head_in)
      (right_false (eqb (layer_of d l).layer1x1_groups 0 && not (eqb (layer_of d l).bottleneck (array_of d).channels))
      (not (eqb (head_width (layer_of d l)) (array_of d).head_in))
      (matched l lt)))

  pub bottleneck_is : (l : ℕ) → l < layer_count d → (layer_of d l).layer1x1_groups ≡ 0 → (layer_of d l).bottleneck ≡ (array_of d).channels
  unfolding unmatched_of
  bottleneck_is l lt z =
      eqb-true (layer_of d l).bottleneck (array_of d).channels
      (not-false (eqb (layer_of d l).bottleneck (array_of d).channels)
      (when_true (eq-eqb (layer_of d l).layer1x1_groups 0 z)
      (left_false (eqb (layer_of d l).layer1x1_groups 0 && not (eqb (layer_of d l).bottleneck (array_of d).channels))
      (not (eqb (head_width (layer_of d l)) (array_of d).head_in))
      (matched l lt))))

  -- no width is above W, and W is no more than 64
  layer_width : (n l i : ℕ) → l < n → i < 3 → get_or (layer_widths (layer_of d l)) i 0 ≤ largest (each_layer (λ l. layer_widths (layer_of d l)) n)
  layer_width n l i lt it =
      subst (λ (x : ℕ). x ≤ largest (each_layer (λ l. layer_widths (layer_of d l)) n))
      (each_at (λ l. layer_widths (layer_of d l)) 3 (λ l. refl) 0 n l i lt it)
      (le_largest (each_layer (λ l. layer_widths (layer_of d l)) n) (3 * l + i))

  pub array_width_le : (i : ℕ) → get_or (array_widths (array_of d)) i 0 ≤ widest_of d
  unfolding widest_of
  array_width_le i =
      omega (
        arith,
        le_largest (array_widths (array_of d)) i,
        largest-append (array_widths (array_of d)) (each_layer (λ l. layer_widths (layer_of d l)) (layer_count d)),
      )

  pub layer_width_le : (l i : ℕ) → l < layer_count d → i < 3 → get_or (layer_widths (layer_of d l)) i 0 ≤ widest_of d
  unfolding widest_of
  layer_width_le l i lt it =
      omega (
        arith,
        layer_width (layer_count d) l i lt it,
        largest-append (array_widths (array_of d)) (each_layer (λ l. layer_widths (layer_of d l)) (layer_count d)),
      )

  -- the widths of one layer, and of the array
  array_most : largest (array_widths (array_of d)) ≤ 64
  unfolding largest
  array_most =
      let f = array_in_range in
      max-le {k = 64} (omega (arith, f.input.most))
      (max-le {k = 64} (omega (arith, f.condition.most))
      (max-le {k = 64} (omega (arith, f.channels.most))
      (max-le {k = 64} (omega (arith, f.head_in.most)) (max-le {k = 64} (omega (arith, f.head_size.most)) (omega arith)))))

  layer_most : (l : ℕ) → l < layer_count d → largest (layer_widths (layer_of d l)) ≤ 64
  unfolding largest
  layer_most l lt =
      let f = layer_in_range l lt in
      max-le {k = 64} (omega (arith, f.bottleneck.most))
      (max-le {k = 64} (mid_range array_in_range f).most (max-le {k = 64} (omega (arith, f.head1x1_width)) (omega arith)))

  layers_most : (n : ℕ) → n ≤ layer_count d → largest (each_layer (λ l. layer_widths (layer_of d l)) n) ≤ 64
  unfolding each_layer
  layers_most zero le = none-largest
  layers_most (suc n) le =
      omega (
        arith,
        largest-append (each_layer (λ l. layer_widths (layer_of d l)) n) (layer_widths (layer_of d n)),
        layers_most n (omega arith),
        layer_most n le,
      )

  pub widest_most : widest_of d ≤ 64
  unfolding widest_of
  widest_most =
      omega (
        arith,
        largest-append (array_widths (array_of d)) (each_layer (λ l. layer_widths (layer_of d l)) (layer_count d)),
        array_most,
        layers_most (layer_count d) (omega arith),
      )

  pub widest_least : 1 ≤ widest_of d
  widest_least = omega (arith, array_width_le 0, array_in_range.input.least)

  -- each part's numbers lie within the whole, and the whole is no more than 1,048,576
  pub weights_within : (i : ℕ) → (place_at d i).weights + weights_of (get_or (parts_of d) i None) ≤ total weights_of (parts_of d)
  unfolding place_at place_of weights_of
  weights_within i = within weights_of refl (parts_of d) i

  pub histories_within : (i : ℕ) → (place_at d i).histories + histories_of (get_or (parts_of d) i None) ≤ total histories_of (parts_of d)
  unfolding place_at place_of histories_of
  histories_within i = within histories_of refl (parts_of d) i

  pub positions_within : (i : ℕ) → (place_at d i).positions + positions_of (get_or (parts_of d) i None) ≤ total positions_of (parts_of d)
  unfolding place_at place_of positions_of
  positions_within i = within positions_of refl (parts_of d) i

  pub weights_most : total weights_of (parts_of d) ≤ most
  unfolding refused5
  weights_most =
      ltb-false most (total weights_of (parts_of d)) (left_false (ltb most (total weights_of (parts_of d))) (ltb most (total histories_of (parts_of d))) tests.fifth)

  pub histories_most : total histories_of (parts_of d) ≤ most
  unfolding refused5
  histories_most =
      ltb-false most (total histories_of (parts_of d)) (right_false (ltb most (total weights_of (parts_of d))) (ltb most (total histories_of (parts_of d))) tests.fifth)

  pub positions_most : total positions_of (parts_of d) ≤ 290
  unfolding positions_of
  positions_most = omega (arith, total_le positions_of 1 (parts_of d) (λ i. at_most_one (get_or (parts_of d) i None)), length-parts d, layers_are.most)

-- the code's a, and its count of layers
pub layers_of : (d : List ℕ) {a : ArrayRecord} → a ≡ array_of d → a.layers ≡ layer_count d
unfolding array_of
layers_of d e = ap (λ (a : ArrayRecord). a.layers) e
