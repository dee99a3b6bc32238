-- How a call stands between two turns: each stage has done the columns that it has reached (Good), and the buffers keep their lengths. It starts so, a
-- turn keeps it so, and when all stages stand at n the buffers hold the recurrence's. Assumes nothing.
use mathlib.Core.Path.{◌≡◌, refl, sym, ◌∙◌, ap}
use mathlib.Core.Bool.{cond}
use mathlib.Core.List.{List}
use Prim.Native.Nat.{ℕ, zero, suc, ◌+◌, ◌-◌, ◌*◌, ◌≤◌, ◌<◌}
use native.Mathlib.Omega.{arith}
use borrow.Author.Tests.{le-ltb, ne_eqb}
use lib.Dec.{ltb}
use lib.ListN.{length}
use Rattle.ring.specs.Memory.{Memory}
use Rattle.turns.proofs.AnyOrder.{Good, fresh_good, turn_good, plan_ends}
use Rattle.description.specs.Parts.{parts_of}
use Rattle.description.specs.Sizes.{histories_of, positions_of, total, widest_of, sizes_of}
use Rattle.array.specs.Stages.{Column, stage_count, next, out}
use Rattle.array.specs.Memories.{memories_of}
use Rattle.array.specs.Lent.{Lent, given}
use Rattle.array.specs.Turn.{Changing, changing, comes, between, past, standing, start_of, TurnDone}
use Rattle.array.proofs.Turning.{moved, turned}
use Rattle.array.proofs.Ended.{array_is, head_is, histories_is, positions_is}
use Rattle.stage.specs.Turns.{Placed, StageFits, Blocks}
use Rattle.stage.specs.declared.span.Span.{Span}
use Rattle.description.specs.declared.places.Place.{Place}
use Rattle.calls.specs.Fit.{Fit, Done}

module _ (b : Lent) where
  abbrev d : List ℕ
  d = b.description

  abbrev N : ℕ
  N = stage_count b.description

  abbrev nx : ℕ → List Memory → Column → List Memory
  nx = next b.description b.weights

  abbrev ou : ℕ → List Memory → Column → Column
  ou = out b.description b.weights

  abbrev init : ℕ → List Memory
  init = memories_of b.description b.histories b.positions

  -- how all stands, where reach says how far the stages are
  pub record UnderWay (n size : ℕ) (e : Changing) (reach : ℕ → ℕ) : Type 0 where
    pub good : Good nx ou init (comes (given b) n) N (standing (given b) n e reach)
    pub all : reach 0 ≡ n
    pub placed : Placed d e.positions
    pub histories_long : length e.histories ≡ length b.histories
    pub positions_long : length e.positions ≡ length b.positions
    pub head_long : length e.head_out ≡ length b.head_out
    pub array_long : length e.array_out ≡ length b.array_out
    pub scratch_long : length e.scratch ≡ 16 * size

  -- reaches that agree: the same standing
  col_same : (n : ℕ) (e : Changing) (r r' : ℕ → ℕ) → ((j : ℕ) → r j ≡ r' j) → (t : ℕ) → (standing (given b) n e r').col t ≡ (standing (given b) n e r).col t
  unfolding standing
  col_same n e r r' same t = rw (same N, same 1)

  good_same : (n : ℕ) (e : Changing) (r r' : ℕ → ℕ) → ((j : ℕ) → r j ≡ r' j) → Good nx ou init (comes (given b) n) N (standing (given b) n e r)
      → Good nx ou init (comes (given b) n) N (standing (given b) n e r')
  unfolding standing
  good_same n e r r' same g = record {
    order = λ k h. omega (arith, g.order k h, same k, same (suc k));
    states = λ k h. rw (← same (suc k)) (g.states k h);
    columns = λ k t h l q. col_same n e r r' same t ∙ g.columns k t h (omega (arith, l, same k)) (λ z. omega (arith, q z, same (suc k)));
  }

  histories_size : (sizes_of b.description).histories ≡ total histories_of (parts_of b.description)
  unfolding sizes_of
  histories_size = refl

  positions_size : (sizes_of b.description).positions ≡ total positions_of (parts_of b.description)
  unfolding sizes_of
  positions_size = refl

  -- nothing is taken yet
  abbrev pub at_first : ℕ → ℕ → ℕ
  at_first n zero = n
  at_first n (suc k) = 0

  module _ {n size : ℕ} (fit : Fit b n size) where
    pub begins : UnderWay n size (changing b) (at_first n)
    unfolding standing
    begins = record {
      good = fresh_good nx ou init (comes (given b) n) N n (standing (given b) n (changing b) (at_first n))
          (record {
            states = λ k. refl;
            columns = λ t h. first t h;
            all = refl;
            none = λ k. refl;
          });
      all = refl;
      placed = record { is = fit.admitted.places };
      histories_long = refl;
      positions_long = refl;
      head_long = refl;
      array_long = refl;
      scratch_long = fit.scratch_is;
    }
      where
        first : (t : ℕ) → t < n → cond (ltb t (at_first n N)) (past (given b) n (changing b) t)
            (cond (ltb t 0) (between (given b) n (changing b) t) (comes (given b) n t)) ≡ comes (given b) n t
        first t h =
            let e : N ≡ suc (N - 1) = omega arith in
            let z : at_first n N ≡ 0 = ap (at_first n) e in
            rw (z, le-ltb t 0 (omega arith))

    -- one turn more: stage k took count columns
    module _ {e e' : Changing} {reach : ℕ → ℕ} (k from count : ℕ) (way : UnderWay n size e reach) (in-range : k < N) (here : reach (suc k) ≡ from) (allowed : from + count ≤ reach k)
        (done : TurnDone (given b) n k from count e e') (placed : Placed d e'.positions)
        (head_long : length e'.head_out ≡ length e.head_out) (array_long : length e'.array_out ≡ length e.array_out) (scratch_long : length e'.scratch ≡ length e.scratch) where
      goes_on_moved : Good nx ou init (comes (given b) n) N (standing (given b) n e' (moved reach k (from + count)))
      unfolding standing
      goes_on_moved =
          turn_good nx ou init (comes (given b) n) N k count (standing (given b) n e reach) (standing (given b) n e' (moved reach k (from + count))) in-range way.good
          (turned (given b) n k from count e e' reach in-range way.good.order way.all here allowed
          (omega (arith, way.histories_long, fit.admitted.histories, whole)) done)
        where
          whole : (sizes_of b.description).histories ≡ total histories_of (parts_of b.description)
          whole = histories_size

      pub goes_on : (reach' : ℕ → ℕ) → ((j : ℕ) → moved reach k (from + count) j ≡ reach' j) → UnderWay n size e' reach'
      goes_on reach' same = record {
        good = good_same n e' (moved reach k (from + count)) reach' same goes_on_moved;
        all = sym (same 0) ∙ not_moved ∙ way.all;
        placed = placed;
        histories_long = done.histories_kept.long ∙ way.histories_long;
        positions_long = done.positions_kept.long ∙ way.positions_long;
        head_long = head_long ∙ way.head_long;
        array_long = array_long ∙ way.array_long;
        scratch_long = scratch_long ∙ way.scratch_long;
      }
        where
          not_moved : moved reach k (from + count) 0 ≡ reach 0
          not_moved = rw (ne_eqb 0 (suc k) (λ z. omega (arith, z)))

    -- all stages stand at n
    pub ends : {e : Changing} {reach : ℕ → ℕ} → UnderWay n size e reach → ((k : ℕ) → k ≤ N → reach k ≡ n) → Done b n e
    unfolding standing
    ends {e} {reach} way all =
        let ended = plan_ends nx ou init (comes (given b) n) N n (standing (given b) n e reach) way.good all in
        record {
          histories_are = histories_is b n e reach (all N (omega arith)) ended (way.histories_long ∙ fit.admitted.histories ∙ histories_size);
          positions_are = positions_is b n e reach (all N (omega arith)) ended (way.positions_long ∙ fit.admitted.positions ∙ positions_size);
          head_is = head_is b n e reach (all N (omega arith)) ended (way.head_long ∙ fit.admitted.head_out);
          array_is = array_is b n e reach (all N (omega arith)) ended (way.array_long ∙ fit.admitted.array_out);
        }

    -- the same by another account of how far the stages are
    pub begins_as : (reach : ℕ → ℕ) → ((j : ℕ) → at_first n j ≡ reach j)
        → UnderWay n size (changing b) reach
    begins_as reach same = record {
      good = good_same n (changing b) (at_first n) reach same begins.good;
      all = sym (same 0);
      placed = begins.placed;
      histories_long = refl;
      positions_long = refl;
      head_long = refl;
      array_long = refl;
      scratch_long = fit.scratch_is;
    }

    -- what a turn asks, of stage k
    module _ {e : Changing} {reach : ℕ → ℕ} (way : UnderWay n size e reach) where
      pub turn_fits : (span : Span) (k : ℕ) {start : Place} → k < N → span.size ≡ size → span.n ≡ n → 0 < span.count → span.from + span.count ≤ n → start ≡ start_of d k
          → StageFits d span k start (length b.weights) (length e.histories) e.positions (length e.scratch)
      unfolding sizes_of
      turn_fits span k in-range size_is n-is some columns_inside start_is = record {
        sound = fit.admitted.described;
        stage_in = in-range;
        some = some;
        columns_inside = omega (arith, columns_inside, n-is);
        few = omega (arith, fit.admitted.columns, n-is);
        size_is = size_is ∙ fit.size_is ∙ ap (λ (m : ℕ). widest_of d * m) (sym n-is);
        weights_are = fit.admitted.weights;
        histories_are = way.histories_long ∙ fit.admitted.histories;
        positions_are = way.positions_long ∙ fit.admitted.positions;
        scratch_is = way.scratch_long ∙ ap (λ (m : ℕ). 16 * m) (sym size_is);
        places = way.placed;
        start_is = start_is;
      }

      pub blocks_fit : Blocks d n b.input b.condition b.head_in e.head_out e.array_out
      blocks_fit = record {
        input_is = fit.admitted.input;
        condition_is = fit.admitted.condition;
        head_in_is = fit.admitted.head_in;
        head_out_is = way.head_long ∙ fit.admitted.head_out;
        array_out_is = way.array_long ∙ fit.admitted.array_out;
      }
