-- The sizes of a description fit 32 bits. Assumes nothing.
use mathlib.Core.Path.{◌≡◌}
use mathlib.Core.List.{List}
use Prim.Native.Nat.{ℕ, zero, suc, ◌-◌, ◌*◌, ◌≤◌, ◌<◌}
use native.Mathlib.Nat.{mul-le-mul}
use native.Mathlib.Omega.{arith}
use Rattle.description.specs.Numbers.{layer_count}
use Rattle.description.specs.Records.{layer_of}
use Rattle.description.specs.Refusals.{refusal_of}
use Rattle.description.specs.Sizes.{sizes_of, sum_below, reach, depth_of}
use Rattle.description.specs.Ranges.{LayerRanges}
use Rattle.description.specs.declared.records.LayerRecord.{LayerRecord}
use Rattle.description.proofs.Sound.{layers_are, layer_in_range, widest_most, weights_most, histories_most, positions_most}
use Rattle.wavenet.specs.Small.{Small}

sum_le : (n : ℕ) (f : ℕ → ℕ) (most : ℕ) → ((l : ℕ) → l < n → f l ≤ most) → sum_below n f ≤ n * most
unfolding sum_below
sum_le zero f most h = omega arith
sum_le (suc n) f most h = let e = sum_le n f most (λ l k. h l (omega arith)) in let g = h n (omega arith) in omega arith

reach_le : (r : LayerRecord) → LayerRanges r → reach r ≤ 30720
reach_le r f = mul-le-mul {n₁ = r.kernel - 1} {m₁ = r.dilation} {n₂ = 15} {m₂ = 2048} (omega (arith, f.kernel.most)) f.dilation.most

pub sizes_small : (d : List ℕ) → refusal_of d ≡ 0 → Small (sizes_of d)
unfolding sizes_of depth_of
sizes_small d h = record {
  weights = omega (arith, weights_most d h);
  histories = omega (arith, histories_most d h);
  positions = omega (arith, positions_most d h);
  widest = omega (arith, widest_most d h);
  depth =
      let n = layers_are d h in
      let s = sum_le (layer_count d) (λ l. reach (layer_of d l)) 30720 (λ l k. reach_le (layer_of d l) (layer_in_range d h l k)) in
      omega (arith, n.most, s);
}
