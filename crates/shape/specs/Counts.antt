-- The counts that follow from a convolution's shape. Document 01, 'Description'.
use Rattle.std.specs.Prelude.{cond, ℕ, ◌+◌, ◌-◌, ◌*◌, ◌/◌, ◌≤◌}
use Rattle.shape.specs.declared.Shape.{Shape}

-- ring length = (kernel - 1) x dilation + 1
unfoldable pub ring_length : Shape → ℕ
ring_length sh = (sh.kernel - 1) * sh.dilation + 1

unfoldable pub inputs_per_group : Shape → ℕ
inputs_per_group sh = sh.ins / sh.groups

unfoldable pub outputs_per_group : Shape → ℕ
outputs_per_group sh = sh.outs / sh.groups

-- out x in x kernel / groups numbers, without the bias
unfoldable pub kernel_count : Shape → ℕ
kernel_count sh = sh.outs * sh.ins * sh.kernel / sh.groups

-- each with its bias after it
unfoldable pub weight_count : Shape → ℕ
unfolding kernel_count
weight_count sh = kernel_count sh + cond sh.biased sh.outs 0

-- in x ring length
unfoldable pub history_count : Shape → ℕ
unfolding ring_length
history_count sh = sh.ins * ring_length sh

-- what document 01's ranges leave of a shape: sides to 128 (a FiLM's scales and shifts of a doubled bottleneck), kernel 1..16, dilation 1..2048, groups 1..32
pub record InRange (sh : Shape) : Type 0 where
  pub ins_low : 1 ≤ sh.ins
  pub ins_high : sh.ins ≤ 128
  pub outs_low : 1 ≤ sh.outs
  pub outs_high : sh.outs ≤ 128
  pub kernel_low : 1 ≤ sh.kernel
  pub kernel_high : sh.kernel ≤ 16
  pub dilation_low : 1 ≤ sh.dilation
  pub dilation_high : sh.dilation ≤ 2048
  pub groups_low : 1 ≤ sh.groups
  pub groups_high : sh.groups ≤ 32
