-- The convolution of one column. Document 01, 'The recurrence'.
use Rattle.std.specs.Prelude.{cond, List, ℕ, zero, suc, ◌+◌, ◌-◌, ◌*◌, ◌/◌, Float}
use Rattle.std.specs.Float.{binary32}
use Rattle.std.specs.Float.Ieee.{mul, of_bits}
use Rattle.lists.specs.Tab.{at}
use Rattle.single.specs.Sum.{sum_from}
use Rattle.ring.specs.Memory.{Memory, past, after}
use Rattle.shape.specs.declared.Shape.{Shape}
use Rattle.shape.specs.Counts.{ring_length, inputs_per_group, outputs_per_group, kernel_count}

-- start at the bias, or +0 without one
unfoldable pub start_of : Shape → List Float → ℕ → Float
start_of sh weights o = cond sh.biased (at weights (kernel_count sh + o)) (of_bits binary32 0)

-- tap k reads (kernel - 1 - k) x dilation columns back
unfoldable pub steps_back : Shape → ℕ → ℕ
steps_back sh k = (sh.kernel - 1 - k) * sh.dilation

-- local input j of output o is channel (o / outputs per group, rounded down) x inputs per group + j
unfoldable pub channel_of : Shape → ℕ → ℕ → ℕ
channel_of sh o j = o / outputs_per_group sh * inputs_per_group sh + j

-- weight index: (output x inputs per group + local input) x kernel + k
unfoldable pub weight_index : Shape → ℕ → ℕ → ℕ → ℕ
weight_index sh o j k = (o * inputs_per_group sh + j) * sh.kernel + k

-- one tap of output o: product by product, local input 0 upward. v channel b: what stands b columns back
unfoldable pub tap_from : Shape → List Float → (ℕ → ℕ → Float) → ℕ → ℕ → Float → Float
tap_from sh weights v o k start =
    sum_from start (inputs_per_group sh) (λ j. mul binary32 (at weights (weight_index sh o j k)) (v (channel_of sh o j) (steps_back sh k)))

-- taps 0 .. k - 1, tap 0 upward
unfoldable pub taps_from : Shape → List Float → (ℕ → ℕ → Float) → ℕ → ℕ → Float → Float
taps_from sh weights v o zero start = start
taps_from sh weights v o (suc k) start = tap_from sh weights v o k (taps_from sh weights v o k start)

-- output o of the column pushed last
unfoldable pub output : Shape → List Float → Memory → ℕ → Float
output sh weights s o = taps_from sh weights (past sh.ins (ring_length sh) s) o sh.kernel (start_of sh weights o)

-- the memory after t columns of x, one at a time; x column channel
abbrev pub remembered : Shape → (ℕ → ℕ → Float) → Memory → ℕ → Memory
remembered sh x s t = after sh.ins (ring_length sh) x s t
