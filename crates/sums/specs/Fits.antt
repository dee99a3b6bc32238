-- What the places have to be: of the sums, of the rows or numbers that the inputs are, and of the weights.
use Rattle.std.specs.Prelude.{◌≡◌, ℕ, ◌+◌, ◌*◌, ◌%◌, ◌≤◌, ◌<◌}
use Rattle.lists.specs.Region.{Apart}

-- n columns of `many` inputs, whose rows are stride apart from `from` on, and their weights
pub record InputsFit (nwork nweights from stride n w step many : ℕ) : Type 0 where
  pub inputs_in : (j : ℕ) → j < many → from + j * stride + n ≤ nwork
  pub weights_inside : (j : ℕ) → j < many → w + j * step < nweights

-- .. onto a row of n sums at `to`, sixteen at a time
pub record RowFits (nwork nweights to from stride n w step many : ℕ) : Type 0 where
  pub whole : n % 16 ≡ 0
  pub some : 0 < many
  pub sums_in : to + n ≤ nwork
  pub inputs : InputsFit nwork nweights from stride n w step many
  pub apart : (j : ℕ) → j < many → Apart to n (from + j * stride) n

-- `many` inputs next to each other from `from` on, and the weights of the outputs 0 .. last, which are `between` apart
pub record OutputsFit (nvalues nweights from w between last step many : ℕ) : Type 0 where
  pub values_in : from + many ≤ nvalues
  pub weights_inside : (i j : ℕ) → i ≤ last → j < many → w + i * between + j * step < nweights
