-- A tap on every output row: what the turns of `start`, `tap_group` and `tap` come to. Assumes nothing.
use mathlib.Core.Path.{◌≡◌, refl, sym, ◌∙◌}
use mathlib.Core.Bool.{cond}
use mathlib.Core.List.{List}
use Prim.Native.Nat.{ℕ, ◌+◌, ◌*◌, ◌≤◌, ◌<◌}
use native.Mathlib.Nat.{le-mul_of_pos_right}
use native.Mathlib.Omega.{arith}
use lib.Ieee.{Float, nan, binary32, of_bits}
use Rattle.lists.specs.Tab.{at, fill, rows}
use Rattle.lists.proofs.Nums.{row_end, row_next}
use Rattle.lists.proofs.Rows.{rows_more, rows_ext, rows_join, at-rows-out}
use Rattle.single.specs.Sum.{sum_from}
use Rattle.sums.specs.Product.{product}
use Rattle.sums.specs.Fits.{RowFits}
use Rattle.shape.specs.declared.Shape.{Shape}
use Rattle.shape.specs.Counts.{inputs_per_group, outputs_per_group, kernel_count}
use Rattle.shape.proofs.Groups.{some_in}
use Rattle.column.specs.Recurrence.{start_of, channel_of, tap_from}
use Rattle.conv.specs.Fits.{TapFits}
use Rattle.column.proofs.Indices.{kernel_in, output_in, group_end, inputs_end, channel_in, channel_is, weight_in, weight_is}
use Rattle.column.proofs.Sums.{tap_is, tap_ext}

pub start_turn : (sh : Shape) (weights old work last : List Float) (out m n o count : ℕ) (b : Float) → count ≡ kernel_count sh
    → work ≡ rows out m n o (λ o t. start_of sh weights o) old → b ≡ cond sh.biased (at weights (count + o)) (of_bits binary32 0)
    → last ≡ fill (out + o * m) n (λ t. b) work → last ≡ rows out m n (o + 1) (λ o t. start_of sh weights o) old
unfolding start_of
start_turn sh weights old work last out m n o count b e r h l = rows_more out m n o _ _ work old last r l (λ t ht. rw (h, e))

pub record RowBounds (nwork nweights out m kernel k first i ipg opg : ℕ) : Type 0 where
  pub group_high : first + opg ≤ 128
  pub sums_high : out + (first + i) * m ≤ nwork
  pub weight_high : (first + i) * ipg * kernel + k < nweights
  pub first_high : (first + i) * ipg ≤ (first + i) * ipg * kernel

module _ {sh : Shape} {nwork nweights out m from stride n k : ℕ} (f : TapFits sh nwork nweights out m from stride n k) where
  -- the sums of output i of group g, and the rows that they read
  pub row_fits : (g i ipg opg now : ℕ) → g < sh.groups → i < opg → ipg ≡ inputs_per_group sh → opg ≡ outputs_per_group sh → now ≡ nwork
      → RowFits now nweights (out + (g * opg + i) * m) (from + g * ipg * stride) stride n ((g * opg + i) * ipg * sh.kernel + k) sh.kernel ipg
  row_fits g i ipg opg now hg hi e1 e2 e3 =
      let d = f.divided in
      let r = f.range in
      let o-in : g * opg + i < sh.outs = rw e2 (output_in d r g i hg (rw (sym e2) hi)) in
      let c-in : (j : ℕ) → j < ipg → g * ipg + j < sh.ins = λ j hj. omega (arith, hj, rw (sym e1) at (inputs_end d r g hg)) in
      record {
        whole = f.whole;
        some = rw e1 (some_in d r);
        sums_in = rw e3 (f.out_in (g * opg + i) o-in);
        inputs = record {
          inputs_in = λ j hj. rw e3 (omega (arith, f.from_in (g * ipg + j) (c-in j hj)));
          weights_inside = λ j hj.
              let w = weight_in d r (g * opg + i) j k o-in (rw (sym e1) hj) f.tap_in in
              let is = weight_is d r (g * opg + i) j k in
              omega (arith, rw (sym e1) at is, w, kernel_in sh nweights f.weights_is);
        };
        apart = λ j hj. omega (arith, f.apart (g * opg + i) (g * ipg + j) o-in (c-in j hj));
      }

  -- the numbers by which the code finds them: none is beyond the last sum or weight
  pub row_bounds : (g i ipg opg : ℕ) → g < sh.groups → i < opg → ipg ≡ inputs_per_group sh → opg ≡ outputs_per_group sh → RowBounds nwork nweights out m sh.kernel k (g * opg) i ipg opg
  row_bounds g i ipg opg hg hi e1 e2 =
      let fit = row_fits g i ipg opg nwork hg hi e1 e2 refl in
      record {
        group_high = rw e2 (omega (arith, group_end f.divided f.range g hg, f.range.outs_high));
        sums_high = omega (arith, fit.sums_in);
        weight_high = omega (arith, fit.inputs.weights_inside 0 fit.some);
        first_high = le-mul_of_pos_right {m = sh.kernel} ((g * opg + i) * ipg) f.range.kernel_low;
      }

  pub first_row : (g ipg : ℕ) → g < sh.groups → ipg ≡ inputs_per_group sh → (g * ipg ≤ 128) × (from + g * ipg * stride ≤ nwork)
  first_row g ipg hg e =
      let end = rw (sym e) at (inputs_end f.divided f.range g hg) in
      let some : 0 < ipg = rw e (some_in f.divided f.range) in
      (omega (arith, end, f.range.ins_high), omega (arith, f.from_in (g * ipg) (omega (arith, end, some))))

  -- what the tap reads and adds to, of output o at column t, once the w rows from `first` on were done
  module _ (weights old work : List Float) (first w : ℕ) (g : ℕ → ℕ → Float) (e : work ≡ rows (out + first * m) m n w g old) (within : first + w ≤ sh.outs) where
    inputs_kept : (c t : ℕ) → c < sh.ins → t < n → at work (from + c * stride + t) ≡ at old (from + c * stride + t)
    inputs_kept c t hc ht =
        rw e (at-rows-out nan (out + first * m) m n w g old (from + c * stride + t)
        (λ i hi. omega (arith, f.apart (first + i) c (omega arith) hc, ht)))

    sums_kept : (o t : ℕ) → first + w ≤ o → t < n → at work (out + o * m + t) ≡ at old (out + o * m + t)
    sums_kept o t ho ht =
        rw e (at-rows-out nan (out + first * m) m n w g old (out + o * m + t)
        (λ i hi. omega (arith, row_end (first + i) o m (omega arith), f.narrow, ht)))

    -- so a tap on work, of an output after these, is the tap on old
    pub tap_kept : (o t : ℕ) → first + w ≤ o → o < sh.outs → t < n
        → tap_from sh weights (λ c b. at work (from + c * stride + t)) o k (at work (out + o * m + t))
        ≡ tap_from sh weights (λ c b. at old (from + c * stride + t)) o k (at old (out + o * m + t))
    tap_kept o t ho lt ht =
        rw (sums_kept o t ho ht)
        (tap_ext sh weights (λ c b. at work (from + c * stride + t)) (λ c b. at old (from + c * stride + t)) o k (at old (out + o * m + t))
        (λ j hj. inputs_kept (channel_of sh o j) t (channel_in f.divided f.range o j lt hj) ht))

  -- one turn of `tap_group`: output i of group g
  pub group_turn : (weights old work last : List Float) (g i ipg opg : ℕ) → g < sh.groups → i < opg → ipg ≡ inputs_per_group sh → opg ≡ outputs_per_group sh
      → work ≡ rows (out + g * opg * m) m n i (λ i t. tap_from sh weights (λ c b. at old (from + c * stride + t)) (g * opg + i) k (at old (out + (g * opg + i) * m + t))) old
      → last ≡ fill (out + (g * opg + i) * m) n (λ t. sum_from (at work (out + (g * opg + i) * m + t)) ipg
      (product weights ((g * opg + i) * ipg * sh.kernel + k) sh.kernel (λ j. at work (from + g * ipg * stride + j * stride + t)))) work
      → last ≡ rows (out + g * opg * m) m n (i + 1) (λ i t. tap_from sh weights (λ c b. at old (from + c * stride + t)) (g * opg + i) k (at old (out + (g * opg + i) * m + t))) old
  group_turn weights old work last g i ipg opg hg hi e1 e2 e h =
      let d = f.divided in
      let r = f.range in
      let o-in : g * opg + i < sh.outs = rw e2 (output_in d r g i hg (rw (sym e2) hi)) in
      let here : out + g * opg * m + i * m ≡ out + (g * opg + i) * m = omega arith in
      rows_more (out + g * opg * m) m n i _ _ work old last e (rw here h) (λ t ht.
      let u : ℕ → Float = λ j. at work (from + g * ipg * stride + j * stride + t) in
      tap_is sh weights (λ c b. at work (from + c * stride + t)) (g * opg + i) k _ ipg u (at work (out + (g * opg + i) * m + t)) e1
      (λ j hj. rw (sym e1) at (weight_is d r (g * opg + i) j k))
      (λ j hj.
      let ch : channel_of sh (g * opg + i) j ≡ g * ipg + j = rw (e1, e2) (channel_is d r g i j (rw (sym e2) hi)) in
      let is : from + g * ipg * stride + j * stride + t ≡ from + (g * ipg + j) * stride + t = omega arith in
      rw (ch, is))
      ∙ tap_kept weights old work (g * opg) i _ e (omega (arith, o-in)) (g * opg + i) t (omega arith) o-in ht)

  -- one turn of `tap`: group g
  pub tap_turn : (weights old work last : List Float) (g : ℕ) → g < sh.groups
      → work ≡ rows out m n (g * outputs_per_group sh) (λ o t. tap_from sh weights (λ c b. at old (from + c * stride + t)) o k (at old (out + o * m + t))) old
      → last ≡ rows (out + g * outputs_per_group sh * m) m n (outputs_per_group sh)
      (λ i t. tap_from sh weights (λ c b. at work (from + c * stride + t)) (g * outputs_per_group sh + i) k (at work (out + (g * outputs_per_group sh + i) * m + t))) work
      → last ≡ rows out m n ((g + 1) * outputs_per_group sh) (λ o t. tap_from sh weights (λ c b. at old (from + c * stride + t)) o k (at old (out + o * m + t))) old
  tap_turn weights old work last g hg e h =
      let opg = outputs_per_group sh in
      let rule : ℕ → ℕ → Float = λ o t. tap_from sh weights (λ c b. at old (from + c * stride + t)) o k (at old (out + o * m + t)) in
      let zero-first : out + 0 * m ≡ out = omega arith in
      let next : (g + 1) * opg ≡ g * opg + opg = row_next g opg in
      let from_zero : work ≡ rows (out + 0 * m) m n (g * opg) rule old = rw zero-first e in
      let all = group_end f.divided f.range g hg in
      h ∙ rows_ext (out + g * opg * m) m n opg _ (λ i. rule (g * opg + i)) work (λ i t hi ht.
      tap_kept weights old work 0 (g * opg) rule from_zero (omega (arith, all)) (g * opg + i) t (omega arith) (omega (arith, all, hi)) ht)
      ∙ rw (e, next) (rows_join out m n (g * opg) opg rule old)
