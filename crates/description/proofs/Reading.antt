-- For the functions that read records: a record is the one of the definitions when its fields are. Assumes nothing.
use mathlib.Core.Path.{◌≡◌, ap}
use mathlib.Core.List.{List, [], ◌∷◌}
use Prim.Native.Nat.{ℕ, ◌+◌, ◌≤◌, ◌<◌}
use native.Mathlib.Nat.{add-zero}
use native.Mathlib.Omega.{arith}
use lib.Dec.{eqb}
use lib.ListN.{get_or}
use Rattle.activation.specs.declared.Activation.{Activation}
use Rattle.gating.specs.declared.Mode.{Mode}
use Rattle.description.specs.Numbers.{array_number, number, record_at}
use Rattle.description.specs.Records.{activation_of, array_of, layer_of, mode_of, sites_of}
use Rattle.description.specs.declared.records.ArrayRecord.{ArrayRecord}
use Rattle.description.specs.declared.records.LayerRecord.{LayerRecord}

pub array_is : (d : List ℕ) {n0 n1 n2 n3 n4 n5 n6 n7 : ℕ}
    → n0 ≡ array_number d 0
    → n1 ≡ array_number d 1
    → n2 ≡ array_number d 2
    → n3 ≡ array_number d 3
    → n4 ≡ array_number d 4
    → n5 ≡ array_number d 5
    → n6 ≡ array_number d 6
    → n7 ≡ array_number d 7
    → ◌≡◌ {A = ArrayRecord} (record { input = n0; condition = n1; channels = n2; head_in = n3; head_size = n4; head_kernel = n5; head_bias = eqb n6 1; layers = n7 }) (array_of d)
unfolding array_of
array_is d e0 e1 e2 e3 e4 e5 e6 e7 = rw (e0, e1, e2, e3, e4, e5, e6, e7)

pub sites_is : (d : List ℕ) (at : ℕ) {n0 n1 n2 n3 n4 n5 n6 n7 : ℕ}
    → n0 ≡ get_or d at 0
    → n1 ≡ get_or d (at + 1) 0
    → n2 ≡ get_or d (at + 2) 0
    → n3 ≡ get_or d (at + 3) 0
    → n4 ≡ get_or d (at + 4) 0
    → n5 ≡ get_or d (at + 5) 0
    → n6 ≡ get_or d (at + 6) 0
    → n7 ≡ get_or d (at + 7) 0
    → n0 ∷ n1 ∷ n2 ∷ n3 ∷ n4 ∷ n5 ∷ n6 ∷ n7 ∷ [] ≡ sites_of d at
unfolding sites_of
sites_is d at e0 e1 e2 e3 e4 e5 e6 e7 = rw (e0, e1, e2, e3, e4, e5, e6, e7)

pub layer_is : (d : List ℕ) (l : ℕ) {n0 n1 n2 n3 n4 n10 n11 n12 n13 n14 n23 : ℕ} {m : Mode} {p s : Activation} {t : List ℕ}
    → n0 ≡ get_or d (record_at l) 0
    → n1 ≡ number d l 1
    → n2 ≡ number d l 2
    → n3 ≡ number d l 3
    → n4 ≡ number d l 4
    → n10 ≡ number d l 10
    → n11 ≡ number d l 11
    → n12 ≡ number d l 12
    → n13 ≡ number d l 13
    → n14 ≡ number d l 14
    → n23 ≡ number d l 23
    → m ≡ mode_of (number d l 5)
    → p ≡ activation_of (number d l 6) (number d l 7)
    → s ≡ activation_of (number d l 8) (number d l 9)
    → t ≡ sites_of d (record_at l + 15)
    → ◌≡◌ {A = LayerRecord} (record { bottleneck = n0; kernel = n1; dilation = n2; conv_groups = n3; mixin_groups = n4; mode = m; primary = p; secondary = s; layer1x1_groups = n10; layer1x1_bias = eqb n11 1; head1x1_width = n12; head1x1_groups = n13; head1x1_bias = eqb n14 1; sites = t; shift_bits = n23 }) (layer_of d l)
unfolding layer_of
layer_is d l e0 e1 e2 e3 e4 e10 e11 e12 e13 e14 e23 em ep es et =
    rw (add-zero (record_at l), e0, e1, e2, e3, e4, e10, e11, e12, e13, e14, e23, em, ep, es)
    (ap (λ (t : List ℕ). record { bottleneck = get_or d (record_at l) 0; kernel = number d l 1; dilation = number d l 2; conv_groups = number d l 3; mixin_groups = number d l 4; mode = mode_of (number d l 5); primary = activation_of (number d l 6) (number d l 7); secondary = activation_of (number d l 8) (number d l 9); layer1x1_groups = number d l 10; layer1x1_bias = eqb (number d l 11) 1; head1x1_width = number d l 12; head1x1_groups = number d l 13; head1x1_bias = eqb (number d l 14) 1; sites = t; shift_bits = number d l 23 }) et)

-- not 0: past 0
pub past_zero : {i : ℕ} → (i ≡ 0 → ⊥) → 1 ≤ i
past_zero ne = omega arith

-- no less than k, and not k: past k
pub past_it : {i : ℕ} (k : ℕ) → k ≤ i → (i ≡ k → ⊥) → k + 1 ≤ i
past_it k le ne = omega arith

pub only : {i k : ℕ} → k ≤ i → i < k + 1 → i ≡ k
only le lt = omega arith
