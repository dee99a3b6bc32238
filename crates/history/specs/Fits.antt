-- What the places and sizes have to be: a history of len columns of ins numbers whose last column is at `at`, and rows in work.
use Rattle.std.specs.Prelude.{◌≡◌, ℕ, ◌+◌, ◌*◌, ◌≤◌, ◌<◌}
use Rattle.lists.specs.Region.{Apart}

pub record StoreFits (at len nhistory nwork ins x stride n : ℕ) : Type 0 where
  pub some : 0 < ins
  pub place_in : at < len
  pub history_is : nhistory ≡ ins * len
  pub block_in : (c : ℕ) → c < ins → x + c * stride + n ≤ nwork

pub record FetchFits (at len nhistory nwork ins to stride back n : ℕ) : Type 0 where
  pub some : 0 < ins
  pub place_in : at < len
  pub history_is : nhistory ≡ ins * len
  pub back_in : back < len
  pub before : n ≤ back
  pub narrow : n ≤ stride
  pub rows_in : to + ins * stride ≤ nwork

pub record CopyFits (nwork to step from stride w n : ℕ) : Type 0 where
  pub to_in : (c : ℕ) → c < w → to + c * step + n ≤ nwork
  pub from_in : (c : ℕ) → c < w → from + c * stride + n ≤ nwork
  pub apart : (c e : ℕ) → c < w → e < w → Apart (to + c * step) n (from + e * stride) n

pub record GatherFits (at len nhistory nwork ins to x stride back n : ℕ) : Type 0 where
  pub some : 0 < ins
  pub place_in : at < len
  pub history_is : nhistory ≡ ins * len
  pub back_in : back < len
  pub rows_in : to + ins * n ≤ nwork
  pub block_in : (c : ℕ) → c < ins → x + c * stride + n ≤ nwork
  pub apart : (c : ℕ) → c < ins → Apart to (ins * n) (x + c * stride) n
