-- What the sizes and places of a convolution have to be. Numbers of work, history and weights are lengths.
use Rattle.std.specs.Prelude.{◌≡◌, ℕ, ◌+◌, ◌*◌, ◌%◌, ◌≤◌, ◌<◌, length}
use Rattle.lists.specs.Region.{Apart}
use Rattle.ring.specs.declared.Memory.{Memory}
use Rattle.shape.specs.declared.Shape.{Shape}
use Rattle.shape.specs.Counts.{InRange, weight_count}
use Rattle.shape.specs.Groups.{Divided}
use Rattle.column.specs.declared.Filter.{Filter}
use Rattle.column.specs.Fits.{PartsFit}
use Rattle.conv.specs.declared.Block.{Block}

-- regions of m columns: the input at x, the output at out, and at rows one that is used up
pub record ConvFits (sh : Shape) (at len m nwork nhistory nweights x out rows : ℕ) : Type 0 where
  pub parts : PartsFit sh at len nhistory nweights
  pub x_in : x + sh.ins * m ≤ nwork
  pub out_in : out + sh.outs * m ≤ nwork
  pub rows_in : rows + sh.ins * m ≤ nwork
  pub out_x : Apart out (sh.outs * m) x (sh.ins * m)
  pub out_rows : Apart out (sh.outs * m) rows (sh.ins * m)
  pub rows_x : Apart rows (sh.ins * m) x (sh.ins * m)

-- ---- within a block: n of its columns, in rows of m

pub record BlockFits (sh : Shape) (at len m n nwork nhistory nweights x out rows : ℕ) : Type 0 where
  pub parts : PartsFit sh at len nhistory nweights
  pub some : 0 < n
  pub x_in : (c : ℕ) → c < sh.ins → x + c * m + n ≤ nwork
  pub out_in : (o : ℕ) → o < sh.outs → out + o * m + n ≤ nwork
  pub rows_in : rows + sh.ins * n ≤ nwork
  pub out_x : (o c : ℕ) → o < sh.outs → c < sh.ins → Apart (out + o * m) n (x + c * m) n
  pub out_rows : (o : ℕ) → o < sh.outs → Apart (out + o * m) n rows (sh.ins * n)
  pub rows_x : (c : ℕ) → c < sh.ins → Apart rows (sh.ins * n) (x + c * m) n
  pub narrow : n ≤ m

-- tap k, which reads rows that are stride apart from `from` on
pub record TapFits (sh : Shape) (nwork nweights out m from stride n k : ℕ) : Type 0 where
  pub range : InRange sh
  pub divided : Divided sh
  pub weights_is : nweights ≡ weight_count sh
  pub tap_in : k < sh.kernel
  pub whole : n % 16 ≡ 0
  pub out_in : (o : ℕ) → o < sh.outs → out + o * m + n ≤ nwork
  pub from_in : (c : ℕ) → c < sh.ins → from + c * stride + n ≤ nwork
  pub apart : (o c : ℕ) → o < sh.outs → c < sh.ins → Apart (out + o * m) n (from + c * stride) n
  pub narrow : n ≤ m

-- ---- the same of the code's structs

abbrev pub WholeFits : Filter → Memory → Block → ℕ → Type 0
WholeFits f m b nwork = ConvFits f.shape m.ring.at m.ring.len b.columns nwork (length m.history.now) (length f.weights.now) b.x b.out b.rows

-- of a part of a block whose rows are `stride` apart
abbrev pub PartFits : Filter → Memory → Block → ℕ → ℕ → Type 0
PartFits f m b stride nwork = BlockFits f.shape m.ring.at m.ring.len stride b.columns nwork (length m.history.now) (length f.weights.now) b.x b.out b.rows
