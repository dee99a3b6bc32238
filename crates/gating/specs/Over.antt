-- Gating over a block of columns within one buffer: n = bottleneck x columns numbers at z, as many g's behind them where there are any.
use Rattle.std.specs.Prelude.{◌≡◌, List, ℕ, ◌+◌, ◌-◌, ◌≤◌, ◌<◌, Float}
use Rattle.std.specs.Float.{nan}
use Rattle.lists.specs.Tab.{at}
use Rattle.lists.specs.Region.{Apart, Free}
use Rattle.activation.specs.declared.Activation.{Activation}
use Rattle.gating.specs.declared.Mode.{Mode}
use Rattle.gating.specs.Joined.{input_rows, joined}

-- the results lie before z, and z with its g's within the buffer
pub record GatingFits (mode : Mode) (out z n long : ℕ) : Type 0 where
  pub before : out + n ≤ z
  pub in_work : z + input_rows mode n ≤ long

-- the n results from out on; the g's are used up, all else is as it was
pub record GatedOver (mode : Mode) (p s : Activation) (out z n : ℕ) (work work' : List Float) : Type 0 where
  pub results : (i : ℕ) → i < n → at work' (out + i) ≡ joined mode p s (at work (z + i)) (at work (z + n + i))
  pub kept : Free nan (λ i. Apart out n i 1 × Apart (z + n) (input_rows mode n - n) i 1) work work'
