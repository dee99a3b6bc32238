-- No count of a shape in range is large: each product is below 2 ^ 22. Assumes nothing.
use mathlib.Core.Bool.{Bool, true, false, cond}
use Prim.Native.Nat.{ℕ, ◌-◌, ◌*◌, ◌≤◌, ◌<◌}
use native.Mathlib.Nat.{mul-le-mul, div-le_self}
use native.Mathlib.Omega.{arith}
use Rattle.shape.specs.declared.Shape.{Shape}
use Rattle.shape.specs.Counts.{InRange, ring_length, kernel_count, weight_count, history_count}

bias_le : (b : Bool) (n : ℕ) → n ≤ 128 → cond b n 0 ≤ 128
bias_le true n h = h
bias_le false n h = omega arith

module _ {sh : Shape} (f : InRange sh) where
  -- the furthest tap: 15 dilations of 2048
  pub reach_le : (sh.kernel - 1) * sh.dilation ≤ 30720
  reach_le = mul-le-mul {n₁ = sh.kernel - 1} {m₁ = sh.dilation} {n₂ = 15} {m₂ = 2048} (omega (arith, f.kernel_high)) f.dilation_high

  pub ring_le : ring_length sh ≤ 30721
  unfolding ring_length
  ring_le = omega (arith, reach_le)

  pub ring_pos : 0 < ring_length sh
  unfolding ring_length
  ring_pos = omega arith

  pub sides_le : sh.outs * sh.ins ≤ 16384
  sides_le = mul-le-mul {n₁ = sh.outs} {m₁ = sh.ins} {n₂ = 128} {m₂ = 128} f.outs_high f.ins_high

  pub product_le : sh.outs * sh.ins * sh.kernel ≤ 262144
  product_le = mul-le-mul {n₁ = sh.outs * sh.ins} {m₁ = sh.kernel} {n₂ = 16384} {m₂ = 16} sides_le f.kernel_high

  pub kernel_le : kernel_count sh ≤ 262144
  unfolding kernel_count
  kernel_le = omega (arith, div-le_self (sh.outs * sh.ins * sh.kernel) sh.groups, product_le)

  pub history_le : sh.ins * ring_length sh ≤ 3932288
  history_le = mul-le-mul {n₁ = sh.ins} {m₁ = ring_length sh} {n₂ = 128} {m₂ = 30721} f.ins_high ring_le

  pub weight_le : weight_count sh ≤ 262272
  unfolding weight_count
  weight_le = omega (arith, kernel_le, bias_le sh.biased sh.outs f.outs_high)

  pub history_count_le : history_count sh ≤ 3932288
  unfolding history_count
  history_count_le = history_le
