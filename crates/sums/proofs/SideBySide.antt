-- Sums side by side, for any number of them: made by their rule; one more product in each; a row of them, sixteen at a time; and numbers stored next to each
-- other. Assumes nothing.
use mathlib.Core.Path.{◌≡◌, refl, sym, ◌∙◌, ap}
use mathlib.Core.List.{List}
use Prim.Native.Nat.{ℕ, zero, suc, ◌+◌, ◌-◌, ◌*◌, ◌/◌, ◌≤◌, ◌<◌}
use native.Mathlib.Nat.{add-zero, zero-add, mul-one}
use native.Mathlib.Omega.{arith}
use lib.ListN.{length, set}
use denote.Param.Members.{Mut}
use Rattle.std.specs.Fn.{Called}
use Rattle.std.specs.Array.{IsFromFnResultFrom, IsFromFnResult}
use lib.Ieee.{Float, nan, binary32, add, mul}
use Rattle.lists.specs.Tab.{at, tab, fill, rows}
use Rattle.lists.proofs.Tab.{at-tab, is_tab, tab_ext}
use Rattle.lists.proofs.Fill.{fill_none, fill_turn, fill_ext, fill_join, fill_apart, fill_swap}
use Rattle.single.specs.Sum.{sum_from}
use Rattle.single.proofs.Sum.{sum_none, sum_more, sum_ext, sum_join}
use Rattle.sums.specs.Product.{product}
use Rattle.sums.specs.Fits.{InputsFit, RowFits, OutputsFit}

-- what `from_fn` makes of calls that give `rule` and leave their closure as it is
module _ {F : Type 0} (g : Mut F (ℕ × Unit {0}) Float) (f : F) (rule : ℕ → Float) (n : ℕ)
    (gives : (i : ℕ) (y : Float) (f' : F) → i < n → Called g f (i, tt) y f' → (y ≡ rule i) × (f' ≡ f)) (ys : List Float) where
  made_from : (a m i : ℕ) → IsFromFnResultFrom g f ys a m → a + m ≤ n → i < m → at ys (a + i) ≡ rule (a + i)
  made_from a zero i made le lt = absurd (omega arith)
  made_from a (suc m) zero (f', y, is, call, rest) le lt =
      let own : a + 0 ≡ a = omega arith in
      rw own (is.1 nan ∙ (gives a y f' (omega arith) call).0)
  made_from a (suc m) (suc i) (f', y, is, call, rest) le lt =
      let next : a + suc i ≡ a + 1 + i = omega arith in
      let same : f' ≡ f = (gives a y f' (omega arith) call).1 in
      rw next (made_from (a + 1) m i (rw same at rest) (omega arith) (omega arith))

  pub made : IsFromFnResult g f ys n → ys ≡ tab n rule
  made all = is_tab nan ys n rule all.long (λ i lt. rw zero-add at (made_from 0 n i all.each (omega arith) lt))

pub lanes_none : (n : ℕ) (sums : List Float) (term : ℕ → ℕ → Float) → length sums ≡ n → sums ≡ tab n (λ i. sum_from (at sums i) 0 (term i))
lanes_none n sums term e = is_tab nan sums n _ e (λ i h. sym (sum_none (at sums i) (term i)))

pub lanes_more : (n j : ℕ) (start : ℕ → Float) (term : ℕ → ℕ → Float) (sums last : List Float) → sums ≡ tab n (λ i. sum_from (start i) j (term i))
    → last ≡ tab n (λ i. add binary32 (at sums i) (term i j)) → last ≡ tab n (λ i. sum_from (start i) (j + 1) (term i))
lanes_more n j start term sums last e h =
    h ∙ tab_ext nan n _ _ (λ i lt. rw (e, at-tab nan n _ i lt) (sum_more (start i) j (term i)))

-- one input's product more in each of n lanes: onto which sums, by which weights and of which number, equations say, so that it holds too where an `if`
-- in the code picks one of them
pub input_more : (weights values : List Float) (n j w between step from a b : ℕ) (start : ℕ → Float) (sums begun last : List Float)
    → sums ≡ tab n (λ i. sum_from (start i) j (product weights (w + i * between) step (λ j. at values (from + j))))
    → last ≡ tab n (λ i. add binary32 (at begun i) (mul binary32 (at weights (a + i * between)) (at values b)))
    → a ≡ w + j * step → b ≡ from + j → begun ≡ sums
    → last ≡ tab n (λ i. sum_from (start i) (j + 1) (product weights (w + i * between) step (λ j. at values (from + j))))
unfolding product
input_more weights values n j w between step from a b start sums begun last e h weight input is =
    let same : (i : ℕ) → a + i * between ≡ w + i * between + j * step = λ i. omega (arith, weight) in
    lanes_more n j start _ sums last e (h ∙ tab_ext nan n _ _ (λ i lt. rw (is, same i, input)))

-- sixteen columns of a row lie where the row does
pub tile_fits : {nwork nweights to from stride n w step many : ℕ} (i m : ℕ) → RowFits nwork nweights to from stride n w step many → i < n / 16 → m ≡ nwork
    → InputsFit m nweights (from + i * 16) stride 16 w step many
tile_fits i m f lt e = record {
  inputs_in = λ j hj. omega (arith, f.inputs.inputs_in j hj, e, lt);
  weights_inside = f.inputs.weights_inside;
}

-- sixteen columns of a row: read, summed and written back
module _ (weights old work sums more last : List Float) (to from stride n w step many i : ℕ) (f : RowFits (length old) (length weights) to from stride n w step many)
    (lt : i < n / 16)
    (e : work ≡ fill to (i * 16) (λ t. sum_from (at old (to + t)) many (product weights w step (λ j. at old (from + j * stride + t)))) old)
    (s : sums ≡ tab 16 (λ k. at work (to + i * 16 + k)))
    (v : more ≡ tab 16 (λ k. sum_from (at sums k) many (product weights w step (λ j. at work (from + i * 16 + j * stride + k)))))
    (l : last ≡ fill (to + i * 16) 16 (at more) work) where
  abbrev row : ℕ → Float
  row t = sum_from (at old (to + t)) many (product weights w step (λ j. at old (from + j * stride + t)))

  -- what was read is what stood there: it lies apart from what is written, or was not written yet
  same : (k : ℕ) → k < 16 → at more k ≡ row (i * 16 + k)
  unfolding product
  same k hk =
      let is : to + i * 16 + k ≡ to + (i * 16 + k) = omega arith in
      let begun : at sums k ≡ at old (to + (i * 16 + k)) =
      rw (s, at-tab nan 16 _ k hk, is) (fill_apart nan to (i * 16) (to + (i * 16 + k)) _ work old e (omega arith)) in
      rw (v, at-tab nan 16 _ k hk, begun) (sum_ext _ many _ _ (λ j hj.
      let at_j : from + i * 16 + j * stride + k ≡ from + j * stride + (i * 16 + k) = omega arith in
      rw (at_j, fill_apart nan to (i * 16) (from + j * stride + (i * 16 + k)) _ work old e (omega (arith, f.apart j hj, lt, hk)))))

  pub row_turn : last ≡ fill to ((i + 1) * 16) row old
  row_turn =
      let next : (i + 1) * 16 ≡ i * 16 + 16 = omega arith in
      l ∙ fill_ext (to + i * 16) 16 (at more) (λ k. row (i * 16 + k)) work same
      ∙ rw (e, next) (fill_join to (i * 16) 16 row old)

-- the same products said otherwise
lanes_ext : (n k : ℕ) (start : ℕ → Float) (f g : ℕ → ℕ → Float) (sums : List Float) → sums ≡ tab n (λ i. sum_from (start i) k (f i))
    → ((i j : ℕ) → i < n → j < k → f i j ≡ g i j) → sums ≡ tab n (λ i. sum_from (start i) k (g i))
lanes_ext n k start f g sums e h = e ∙ tab_ext nan n _ _ (λ i lt. sum_ext (start i) k (f i) (g i) (λ j hj. h i j lt hj))

-- lanes summed in stretches of inputs: some products after others
pub lanes_join : (n d k : ℕ) (start : ℕ → Float) (f g : ℕ → ℕ → Float) (sums last : List Float) → sums ≡ tab n (λ i. sum_from (start i) d (f i))
    → last ≡ tab n (λ i. sum_from (at sums i) k (g i)) → ((i j : ℕ) → i < n → j < k → g i j ≡ f i (d + j))
    → last ≡ tab n (λ i. sum_from (start i) (d + k) (f i))
lanes_join n d k start f g sums last e l h =
    lanes_ext n k (at sums) g (λ i j. f i (d + j)) last l h
    ∙ tab_ext nan n _ _ (λ i lt. rw (e, at-tab nan n _ i lt) (sum_join (start i) d k (f i)))

-- k inputs from input d on lie where all of them do
pub outputs_part : {nvalues nweights from w between last step many : ℕ} (d k : ℕ) → OutputsFit nvalues nweights from w between last step many
    → d + k ≤ many → OutputsFit nvalues nweights (from + d) (w + d * step) between last step k
outputs_part d k f le = record {
  values_in = omega (arith, f.values_in);
  weights_inside = λ i j hi hj. omega (arith, f.weights_inside i (d + j) hi (omega arith));
}

-- a four of inputs more in each of n lanes, said as in `input_more`
pub four_more : (weights values : List Float) (n q w between from a b : ℕ) (start : ℕ → Float) (sums begun last : List Float)
    → sums ≡ tab n (λ i. sum_from (start i) (q * 4) (product weights (w + i * between) 1 (λ j. at values (from + j))))
    → last ≡ tab n (λ i. sum_from (at begun i) 4 (product weights (a + i * between) 1 (λ j. at values (b + j))))
    → a ≡ w + q * 4 → b ≡ from + q * 4 → begun ≡ sums
    → last ≡ tab n (λ i. sum_from (start i) ((q + 1) * 4) (product weights (w + i * between) 1 (λ j. at values (from + j))))
unfolding product
four_more weights values n q w between from a b start sums begun last e h weight input is =
    let next : (q + 1) * 4 ≡ q * 4 + 4 = omega arith in
    let number : (j : ℕ) → b + j ≡ from + (q * 4 + j) = λ j. omega (arith, input) in
    let place : (i j : ℕ) → a + i * between + j * 1 ≡ w + i * between + (q * 4 + j) * 1 = λ i j. omega (arith, weight) in
    rw next (lanes_join n (q * 4) 4 start _ _ sums last e (rw is at h) (λ i j hi hj. rw (place i j, number j)))

-- four q of n lies where all of them do
pub four_in : {nvalues nweights from w between last n q a b : ℕ} → OutputsFit nvalues nweights from w between last 1 (n * 4) → q < n
    → a ≤ w + q * 4 → b ≡ from + q * 4 → OutputsFit nvalues nweights b a between last 1 4
four_in {q = q} f lt le is =
    let part = outputs_part (q * 4) 4 f (omega arith) in
    record { values_in = omega (arith, part.values_in, is); weights_inside = λ i j hi hj. omega (arith, part.weights_inside i j hi hj, le) }

-- the same number of products said otherwise
pub lanes_count : (n m k : ℕ) (start : ℕ → Float) (term : ℕ → ℕ → Float) (sums : List Float) → sums ≡ tab n (λ i. sum_from (start i) m (term i)) → m ≡ k
    → sums ≡ tab n (λ i. sum_from (start i) k (term i))
lanes_count n m k start term sums e is = rw is at e

-- ---- numbers stored next to each other, the first one last: one store more of the others
pub others_turn : (to i : ℕ) (g : ℕ → Float) (v : Float) (out old : List Float) → 0 < i → out ≡ fill (to + 1) (i - 1) g old → v ≡ g (i - 1)
    → set out (to + i) v ≡ fill (to + 1) (i + 1 - 1) g old
others_turn to i g v out old some e h =
    let place : to + i ≡ to + 1 + (i - 1) = omega arith in
    let next : i + 1 - 1 ≡ i - 1 + 1 = omega arith in
    ap (λ (k : ℕ). set out k v) place ∙ rw next (fill_turn out old (to + 1) (i - 1) g v e h)

-- .. and then the first
pub first_last : (to n : ℕ) (f : ℕ → Float) (out old : List Float) → 0 < n → to + n ≤ length old → out ≡ fill (to + 1) (n - 1) (λ k. f (1 + k)) old
    → set out to (f 0) ≡ fill to n f old
first_last to n f out old some b e =
    let one : set out to (f 0) ≡ fill to 1 f out = rw add-zero at (fill_turn out out to 0 f (f 0) (sym (fill_none to f out)) refl) in
    let swapped : fill to 1 f out ≡ fill (to + 1) (n - 1) (λ k. f (1 + k)) (fill to 1 f old) =
    rw e (fill_swap nan to 1 (to + 1) (n - 1) f (λ k. f (1 + k)) old (omega arith) (omega arith) (omega arith)) in
    let all : 1 + (n - 1) ≡ n = omega arith in
    one ∙ swapped ∙ fill_join to 1 (n - 1) f old ∙ ap (λ (k : ℕ). fill to k f old) all

-- they are rows of one place
pub cells : (to n : ℕ) (f : ℕ → Float) (old : List Float) → fill to n f old ≡ rows to 1 1 n (λ i t. f i) old
unfolding fill rows
cells to zero f old = refl
cells to (suc n) f old = rw (cells to n f old, mul-one n, add-zero (to + n))
