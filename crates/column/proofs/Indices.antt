-- A grouped index is in range, for every shape: channels, weights, biases, and how far back a tap reads. Assumes nothing.
use mathlib.Core.Path.{◌≡◌, ◌∙◌, ap}
use mathlib.Core.Bool.{Bool, true, false, cond}
use Prim.Native.Nat.{ℕ, ◌+◌, ◌-◌, ◌*◌, ◌/◌, ◌≤◌, ◌<◌}
use native.Mathlib.Nat.{mul-le-mul_right}
use native.Mathlib.Omega.{arith}
use Rattle.lists.proofs.Nums.{row_end, cell_lt, cell_div, div_lt}
use Rattle.shape.specs.declared.Shape.{Shape}
use Rattle.shape.specs.Counts.{InRange, ring_length, inputs_per_group, outputs_per_group, kernel_count, weight_count}
use Rattle.shape.specs.Groups.{Divided}
use Rattle.shape.proofs.Groups.{ins_are, outs_are, some_out, kernel_is}
use Rattle.column.specs.Recurrence.{steps_back, channel_of, weight_index}
use Rattle.column.specs.Fits.{GroupFits}

pub reach : (sh : Shape) (k : ℕ) → steps_back sh k < ring_length sh
unfolding steps_back ring_length
reach sh k = omega (arith, mul-le-mul_right {m = sh.kernel - 1 - k} {n = sh.kernel - 1} sh.dilation (omega arith))

pub bias_in : (sh : Shape) (o n : ℕ) → n ≡ weight_count sh → o ≤ sh.outs → sh.biased ≡ true → kernel_count sh + o ≤ n
unfolding weight_count
bias_in sh o n e lt b = all sh.biased (kernel_count sh) sh.outs b lt (omega (arith, e))
  where
    all : (b : Bool) (k outs : ℕ) → b ≡ true → o ≤ outs → k + cond b outs 0 ≤ n → k + o ≤ n
    all true k outs b le h = let whole : k + outs ≤ n = h in omega arith
    all false k outs b le h = absurd (let z : ◌≡◌ {A = ℕ} 0 1 = cc in omega arith)

pub kernel_in : (sh : Shape) (n : ℕ) → n ≡ weight_count sh → kernel_count sh ≤ n
unfolding weight_count
kernel_in sh n e = omega (arith, e)

-- some of the outputs of a stretch
pub stretch : {sh : Shape} {g first n : ℕ} (i k : ℕ) → GroupFits sh g first n → i + k ≤ n → GroupFits sh g (first + i) k
stretch i k h le = record { group_in = h.group_in; low = omega (arith, h.low); high = omega (arith, h.high, le) }

module _ {sh : Shape} (d : Divided sh) (f : InRange sh) where
  -- the outputs of group g
  pub output_in : (g i : ℕ) → g < sh.groups → i < outputs_per_group sh → g * outputs_per_group sh + i < sh.outs
  output_in g i hg hi = omega (arith, outs_are d, cell_lt g sh.groups (outputs_per_group sh) i hg hi)

  pub group_end : (g : ℕ) → g < sh.groups → g * outputs_per_group sh + outputs_per_group sh ≤ sh.outs
  group_end g hg = omega (arith, outs_are d, row_end g sh.groups (outputs_per_group sh) hg)

  -- the first n outputs of group g, as the code has them
  pub group_fits : (g n opg : ℕ) → g < sh.groups → opg ≡ outputs_per_group sh → n ≤ opg → GroupFits sh g (g * opg) n
  group_fits g n opg hg e le = rw e (record { group_in = hg; low = omega arith; high = omega (arith, e, le) })

  pub inputs_end : (g : ℕ) → g < sh.groups → g * inputs_per_group sh + inputs_per_group sh ≤ sh.ins
  inputs_end g hg = omega (arith, ins_are d, row_end g sh.groups (inputs_per_group sh) hg)

  -- the channel of a local input is one of the inputs
  pub channel_in : (o j : ℕ) → o < sh.outs → j < inputs_per_group sh → channel_of sh o j < sh.ins
  unfolding channel_of
  channel_in o j ho hj =
      let g : o / outputs_per_group sh < sh.groups = div_lt o sh.groups (outputs_per_group sh) (omega (arith, outs_are d)) (some_out d f) in
      omega (arith, inputs_end (o / outputs_per_group sh) g)

  -- and is found by its group
  pub channel_is : (g i j : ℕ) → i < outputs_per_group sh → channel_of sh (g * outputs_per_group sh + i) j ≡ g * inputs_per_group sh + j
  unfolding channel_of
  channel_is g i j hi = ap (λ (n : ℕ). n * inputs_per_group sh + j) (cell_div g (outputs_per_group sh) i hi)

  -- every output of a stretch of group g has the group's channels
  pub channel_at : {g first n : ℕ} → GroupFits sh g first n → (i j : ℕ) → i < n → channel_of sh (first + i) j ≡ g * inputs_per_group sh + j
  channel_at {g} {first} {n} h i j hi =
      let is : first + i ≡ g * outputs_per_group sh + (first + i - g * outputs_per_group sh) = omega (arith, h.low) in
      ap (λ (o : ℕ). channel_of sh o j) is ∙ channel_is g (first + i - g * outputs_per_group sh) j (omega (arith, h.low, h.high, hi))

  pub weight_in : (o j k : ℕ) → o < sh.outs → j < inputs_per_group sh → k < sh.kernel → weight_index sh o j k < kernel_count sh
  unfolding weight_index
  weight_in o j k ho hj hk =
      let ipg = inputs_per_group sh in
      let row : o * ipg + j < sh.outs * ipg = cell_lt o sh.outs ipg j ho hj in
      omega (arith, cell_lt (o * ipg + j) (sh.outs * ipg) sh.kernel k row hk, kernel_is d f)

  -- as the code has it: j steps of kernel from the output's first weight of tap k
  pub weight_is : (o j k : ℕ) → o * inputs_per_group sh * sh.kernel + k + j * sh.kernel ≡ weight_index sh o j k
  unfolding weight_index
  weight_is o j k = omega arith
