-- What the tests of refusal 2 leave of the records, where they fail. Assumes nothing.
use mathlib.Core.Path.{◌≡◌, refl}
use mathlib.Core.Bool.{false, ◌&&◌, ◌||◌}
use mathlib.Core.List.{List, [], ◌∷◌}
use Prim.Native.Nat.{ℕ, zero, suc, ◌+◌, ◌≤◌, ◌<◌}
use native.Mathlib.Nat.{add_assoc, add-zero, not-suc-le-zero}
use native.Mathlib.Omega.{arith}
use lib.Dec.{ltb, lit<}
use lib.ListN.{get_or, length}
use borrow.Author.Tests.{ltb-false, ne_eqb}
use Rattle.description.specs.Numbers.{layer_count, number, record_at}
use Rattle.description.specs.Limits.{array_limits, breaks_range, layer_limits, outside}
use Rattle.description.specs.ZeroRules.{breaks_activations, breaks_parts, breaks_sites, breaks_zero_rule, none, some}
use Rattle.description.specs.Records.{array_of, layer_of, sites_of}
use Rattle.description.specs.Parts.{site_groups}
use Rattle.description.specs.Ranges.{ArrayRanges, Between, LayerRanges}
use Rattle.description.specs.Refusals.{breaks_layer}
use Rattle.description.proofs.Folds.{left_false, none_below, right_false}

inside : (low high x : ℕ) → (ltb x low || ltb high x) ≡ false → Between low high x
inside low high x e = record { least = ltb-false _ _ (left_false (ltb x low) (ltb high x) e); most = ltb-false _ _ (right_false (ltb x low) (ltb high x) e) }

-- the number at place p lies within its limits
at_place : (limits : List (List ℕ)) (d : List ℕ) (at : ℕ) → breaks_range limits d at ≡ false → (p : ℕ) → p < length limits
    → outside (get_or limits p []) (get_or d (at + p) 0) ≡ false
unfolding breaks_range
at_place limits d at e p lt = none_below (length limits) (λ p. outside (get_or limits p []) (get_or d (at + p) 0)) e p lt

pub array_ranges : (d : List ℕ) → breaks_range array_limits d 0 ≡ false → ArrayRanges (array_of d)
unfolding array_of array_limits
array_ranges d e =
    let at = at_place array_limits d 0 e in
    record {
      input = inside 1 32 _ (at 0 (lit< tt));
      condition = inside 1 32 _ (at 1 (lit< tt));
      channels = inside 1 32 _ (at 2 (lit< tt));
      head_in = inside 1 32 _ (at 3 (lit< tt));
      head_size = inside 1 32 _ (at 4 (lit< tt));
      head_kernel = inside 1 16 _ (at 5 (lit< tt));
      layers = inside 1 24 _ (at 7 (lit< tt));
    }

-- some w && none g fails: with w there is g
both : (w g : ℕ) → (some w && none g) ≡ false → 1 ≤ w → 1 ≤ g
both zero g e h = absurd (not-suc-le-zero h)
both (suc w) (suc g) e h = omega arith
both (suc w) zero e h = let z : ◌≡◌ {A = ℕ} 0 1 = cc (ne_eqb (suc w) 0 (λ q. omega arith)) in absurd (omega arith)

-- the groups of the sites, from place `at` on
sites_le : (d : List ℕ) (at : ℕ) → ((i : ℕ) → i < 8 → get_or d (at + (15 + i)) 0 ≤ 32) → (i : ℕ) → site_groups (sites_of d (at + 15)) i ≤ 32
unfolding sites_of
sites_le d at h zero = rw (add-zero 15) at (h 0 (lit< tt))
sites_le d at h (suc zero) = rw add_assoc (h 1 (lit< tt))
sites_le d at h (suc (suc zero)) = rw add_assoc (h 2 (lit< tt))
sites_le d at h (suc (suc (suc zero))) = rw add_assoc (h 3 (lit< tt))
sites_le d at h (suc (suc (suc (suc zero)))) = rw add_assoc (h 4 (lit< tt))
sites_le d at h (suc (suc (suc (suc (suc zero))))) = rw add_assoc (h 5 (lit< tt))
sites_le d at h (suc (suc (suc (suc (suc (suc zero)))))) = rw add_assoc (h 6 (lit< tt))
sites_le d at h (suc (suc (suc (suc (suc (suc (suc zero))))))) = rw add_assoc (h 7 (lit< tt))
sites_le d at h (suc (suc (suc (suc (suc (suc (suc (suc i)))))))) = omega arith

-- the sites' places have the limits 0 to 32
site_limits : (i : ℕ) → i < 8 → get_or layer_limits (15 + i) [] ≡ 0 ∷ 32 ∷ []
unfolding layer_limits
site_limits zero lt = refl
site_limits (suc zero) lt = refl
site_limits (suc (suc zero)) lt = refl
site_limits (suc (suc (suc zero))) lt = refl
site_limits (suc (suc (suc (suc zero)))) lt = refl
site_limits (suc (suc (suc (suc (suc zero))))) lt = refl
site_limits (suc (suc (suc (suc (suc (suc zero)))))) lt = refl
site_limits (suc (suc (suc (suc (suc (suc (suc zero))))))) lt = refl
site_limits (suc (suc (suc (suc (suc (suc (suc (suc i)))))))) lt = absurd (omega arith)

pub layer_ranges : (d : List ℕ) (l : ℕ) → breaks_layer d l ≡ false → LayerRanges (layer_of d l)
unfolding layer_of layer_limits breaks_layer breaks_zero_rule breaks_parts
layer_ranges d l e =
    let range = left_false (breaks_range layer_limits d (record_at l)) (breaks_zero_rule d (record_at l)) e in
    let zeros = right_false (breaks_range layer_limits d (record_at l)) (breaks_zero_rule d (record_at l)) e in
    let parts = right_false (breaks_activations d (record_at l)) (breaks_parts d (record_at l))
    (left_false (breaks_activations d (record_at l) || breaks_parts d (record_at l)) (breaks_sites d (record_at l)) zeros) in
    let at = at_place layer_limits d (record_at l) range in
    record {
      bottleneck = inside 1 32 _ (at 0 (lit< tt));
      kernel = inside 1 16 _ (at 1 (lit< tt));
      dilation = inside 1 2048 _ (at 2 (lit< tt));
      conv_groups = inside 1 32 _ (at 3 (lit< tt));
      mixin_groups = inside 1 32 _ (at 4 (lit< tt));
      layer1x1_groups = (inside 0 32 _ (at 10 (lit< tt))).most;
      head1x1_width = (inside 0 32 _ (at 12 (lit< tt))).most;
      head1x1_groups = (inside 0 32 _ (at 13 (lit< tt))).most;
      head1x1_there =
          both (number d l 12) (number d l 13)
          (right_false
          (none (number d l 10) && some (number d l 11) || none (number d l 12) && (some (number d l 13) || some (number d l 14)))
          (some (number d l 12) && none (number d l 13))
          parts);
      site_groups_in =
          sites_le d (record_at l)
          (λ i lt. (inside 0 32 _ (rw (site_limits i lt) at (at (15 + i) (omega arith)))).most);
    }

pub layers_between : (d : List ℕ) → breaks_range array_limits d 0 ≡ false → Between 1 24 (layer_count d)
unfolding array_of
layers_between d e = (array_ranges d e).layers
