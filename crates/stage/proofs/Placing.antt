-- After a turn every position is below its ring length: the stage's own by the turn, all others since they were left. Assumes nothing.
use Rattle.std.specs.Prelude.{None, Some}
use mathlib.Core.Path.{◌≡◌, sym, ◌∙◌}
use mathlib.Core.List.{List}
use mathlib.Core.Logic.{⊎_elim}
use Prim.Native.Nat.{ℕ, suc, ◌+◌, ◌≤◌, ◌<◌}
use native.Mathlib.Omega.{arith}
use lib.ListN.{length, get_or, take, get_or-eq_default}
use Rattle.lists.specs.Region.{Free}
use Rattle.lists.proofs.Nums.{le_or_lt}
use Rattle.shape.specs.declared.Shape.{Shape}
use Rattle.shape.specs.Counts.{ring_length}
use Rattle.description.specs.Parts.{parts_of}
use Rattle.description.specs.Sizes.{positions_of, total, place_of, place_at}
use Rattle.description.specs.Part.{Part}
use Rattle.layer.proofs.Places.{total_more, total_mono}
use Rattle.array.specs.Stages.{first_part}
use Rattle.array.specs.Turn.{OutsidePositions}
use Rattle.stage.specs.Turns.{Placed}

pub not_both : {sh : Shape} → None ≡ Some sh → ⊥
not_both e = absurd (let z : ◌≡◌ {A = ℕ} 0 1 = cc in omega arith)

-- a part that is there is one of the list
pub number_in : (ps : List Part) (i : ℕ) (sh : Shape) → get_or ps i None ≡ Some sh → i < length ps
number_in ps i sh is =
    ⊎_elim (λ (l : length ps ≤ i). absurd (not_both (sym (get_or-eq_default ps None l) ∙ is))) (λ (l : i < length ps). l) (le_or_lt (length ps) i)

module _ (d : List ℕ) (k : ℕ) {p0 p1 : List ℕ} (placed : Placed d p0) (kept : Free 0 (OutsidePositions d k) p0 p1)
    (own : (i : ℕ) (sh : Shape) → first_part k ≤ i → i < first_part (suc k) → get_or (parts_of d) i None ≡ Some sh → get_or p1 (place_at d i).positions 0 < ring_length sh) where
  one : (i : ℕ) (sh : Shape) → get_or (parts_of d) i None ≡ Some sh → total positions_of (take i (parts_of d)) + 1 ≡ total positions_of (take (suc i) (parts_of d))
  unfolding positions_of
  one i sh is = rw is at (total_more positions_of (parts_of d) i (number_in (parts_of d) i sh is))

  left : (i : ℕ) (sh : Shape) → get_or (parts_of d) i None ≡ Some sh → OutsidePositions d k (place_at d i).positions → get_or p1 (place_at d i).positions 0 < ring_length sh
  left i sh is outside = rw (kept.is (place_at d i).positions outside) (placed.is i sh is)

  pub placed_on : Placed d p1
  unfolding place_at place_of
  placed_on = record {
    is = λ i sh is.
        let more = one i sh is in
        ⊎_elim
        (λ (l : suc i ≤ first_part k). left i sh is (let q = total_mono positions_of (parts_of d) (suc i) (first_part k) l in omega (arith, more, q)))
        (λ (l : first_part k < suc i). ⊎_elim
        (λ (l2 : first_part (suc k) ≤ i). left i sh is (let q = total_mono positions_of (parts_of d) (first_part (suc k)) i l2 in omega (arith, q)))
        (λ (l2 : i < first_part (suc k)). own i sh (omega arith) l2 is)
        (le_or_lt (first_part (suc k)) i))
        (le_or_lt (suc i) (first_part k));
  }
