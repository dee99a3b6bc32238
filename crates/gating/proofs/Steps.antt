-- The passes over the buffer, one after the other, come to the formulas of gating. Assumes nothing.
use mathlib.Core.Path.{◌≡◌, refl, ◌∙◌, ap}
use mathlib.Core.List.{List}
use Prim.Native.Nat.{ℕ, ◌+◌, ◌*◌, ◌≤◌, ◌<◌}
use native.Mathlib.Omega.{arith}
use lib.ListN.{length}
use lib.Ieee.{Float, nan, binary32, mul}
use Rattle.lists.specs.Tab.{at, fill}
use Rattle.lists.specs.Region.{Apart}
use Rattle.lists.proofs.Fill.{length-fill, at-fill_in, at-fill-out}
use Rattle.activation.specs.declared.Activation.{Activation}
use Rattle.activation.specs.Activated.{activated}
use Rattle.gating.specs.declared.Mode.{Mode}
use Rattle.gating.specs.declared.Mode.TheVariants.{None, Gated, Blended}
use Rattle.gating.specs.Joined.{input_rows, blend, joined}
use Rattle.gating.specs.Over.{GatedOver}

pub rows_least : (mode : Mode) (n : ℕ) → n ≤ input_rows mode n
unfolding input_rows
rows_least None n = omega arith
rows_least Gated n = omega arith
rows_least Blended n = omega arith

module _ (p s : Activation) (out z n : ℕ) (work : List Float) (before : out + n ≤ z) where
  -- the primary activation alone
  module _ (in_work : z + n ≤ length work) (one : List Float) (e : one ≡ fill out n (λ i. activated p (at work (z + i))) work) where
    primary_is : (i : ℕ) → i < n → at one (out + i) ≡ activated p (at work (z + i))
    primary_is i h = rw e (at-fill_in nan out n _ work i h (omega arith))

    primary_long : length one ≡ length work
    primary_long = ap length e ∙ length-fill out n _ work

    primary_out : (i : ℕ) → Apart out n i 1 → at one i ≡ at work i
    primary_out i h = rw e (at-fill-out nan out n _ work i h)

    pub none_is : GatedOver None p s out z n work one
    unfolding joined
    none_is = record { results = primary_is; kept = record { long = primary_long; is = λ i h. primary_out i h.0 } }

    -- the secondary activation of the g's, in place; then a pass that joins them by a rule
    module _ (twice : z + 2 * n ≤ length work) (two : List Float) (e2 : two ≡ fill (z + n) n (λ i. activated s (at one (z + n + i))) one) where
      secondary_is : (i : ℕ) → i < n → at two (z + n + i) ≡ activated s (at work (z + n + i))
      secondary_is i h =
          rw e2 (at-fill_in nan (z + n) n _ one i h (omega (arith, primary_long))) ∙ ap (activated s) (primary_out (z + n + i) (omega arith))

      secondary_out : (i : ℕ) → Apart (z + n) n i 1 → at two i ≡ at one i
      secondary_out i h = rw e2 (at-fill-out nan (z + n) n _ one i h)

      secondary_long : length two ≡ length work
      secondary_long = ap length e2 ∙ length-fill (z + n) n _ one ∙ primary_long

      -- what the last pass finds at its three places
      pub p_is : (i : ℕ) → i < n → at two (out + i) ≡ activated p (at work (z + i))
      p_is i h = secondary_out (out + i) (omega arith) ∙ primary_is i h

      pub a_is : (i : ℕ) → i < n → at two (z + i) ≡ at work (z + i)
      a_is i h = secondary_out (z + i) (omega arith) ∙ primary_out (z + i) (omega arith)

      module _ (mode : Mode) (rule : ℕ → Float) (three : List Float) (e3 : three ≡ fill out n rule two) (rows : input_rows mode n ≡ 2 * n)
          (right : (i : ℕ) → i < n → rule i ≡ joined mode p s (at work (z + i)) (at work (z + n + i))) where
        both_is : GatedOver mode p s out z n work three
        both_is = record {
          results = λ i h. rw e3 (at-fill_in nan out n rule two i h (omega (arith, secondary_long)) ∙ right i h);
          kept = record {
            long = ap length e3 ∙ length-fill out n rule two ∙ secondary_long;
            is = λ i h.
                rw e3 (at-fill-out nan out n rule two i h.0)
                ∙ secondary_out i (omega (arith, h.1, rows))
                ∙ primary_out i h.0;
          };
        }

      pub gated_is : (three : List Float) → three ≡ fill out n (λ i. mul binary32 (at two (out + i)) (at two (z + n + i))) two
          → GatedOver Gated p s out z n work three
      unfolding joined input_rows
      gated_is three e3 = both_is Gated _ three e3 refl (λ i h. rw (p_is i h, secondary_is i h))

      pub blended_is : (three : List Float) → three ≡ fill out n (λ i. blend (at two (z + n + i)) (at two (out + i)) (at two (z + i))) two
          → GatedOver Blended p s out z n work three
      unfolding joined input_rows
      blended_is three e3 = both_is Blended _ three e3 refl (λ i h. rw (p_is i h, secondary_is i h, a_is i h))
