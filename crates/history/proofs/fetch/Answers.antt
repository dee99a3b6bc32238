-- After t columns each row has its first t numbers out of the past, by `fetch_turn`; the place is the one of the column read last.
use mathlib.Core.Path.{◌≡◌, ◌∙◌, ap}
use Prim.Native.Nat.{ℕ, ◌-◌, ◌<◌}
use native.Mathlib.Omega.{arith}
use borrow.Author.Rules.{rules}
use Rattle.lists.proofs.Rows.{rows_narrow}
use Rattle.lists.proofs.Nums.{row_end}
use Rattle.ring.specs.declared.Ring.{Ring}
use Rattle.ring.proofs.Places.{back_lt}
use Rattle.ring.specs.Place.{next_place, place_back}
use Rattle.history.proofs.Turns.{column_end, fetch_place, fetch_turn}
use Rattle.history.proofs.fetch.Goals as goal

pub loop-t-init : goal.loop-t-init
loop-t-init c =
    let ring = c.args.ring in
    let none : c.args.back ≡ c.args.back - 0 = omega arith in
    (search rules, search rules, search rules, c.back.ensures ∙ ap (λ (k : ℕ). place_back ring.len ring.at k) none, rows_narrow _ _ _ _ _)

pub next-place-requires : goal.next-place-requires
next-place-requires c =
    let ring = c.args.ring in
    let f = c.requires in
    rw (c.loop-t.invariant.2, c.loop-t.invariant.3) (back_lt ring.len ring.at (c.args.back - c.loop-t.t) f.place_in (omega (arith, f.back_in)))

pub overflow_mul-base : goal.overflow_mul-base
overflow_mul-base c =
    let ring = c.args.ring in
    let f = c.requires in
    let l = c.loop-t in
    let to : c.next-place.result.at ≡ next_place ring.len l.place.at = rw (ap (λ (r : Ring). r.at) c.next-place.ensures, l.invariant.2) in
    let q = fetch_place ring.len ring.at c.args.back l.t l.place.at _ f.place_in f.back_in (omega (arith, f.before, c.loop-t-test.true)) l.invariant.3 to in
    let lt : c.next-place.result.at < ring.len = rw q (back_lt ring.len ring.at _ f.place_in (omega (arith, f.back_in))) in
    omega (arith, column_end c.args.ins ring.len c.next-place.result.at _ lt f.history_is)

pub fetch_column-requires : goal.fetch_column-requires
fetch_column-requires c =
    let ring = c.args.ring in
    let f = c.requires in
    let l = c.loop-t in
    let to : c.next-place.result.at ≡ next_place ring.len l.place.at = rw (ap (λ (r : Ring). r.at) c.next-place.ensures, l.invariant.2) in
    let q = fetch_place ring.len ring.at c.args.back l.t l.place.at _ f.place_in f.back_in (omega (arith, f.before, c.loop-t-test.true)) l.invariant.3 to in
    let lt : c.next-place.result.at < ring.len = rw q (back_lt ring.len ring.at _ f.place_in (omega (arith, f.back_in))) in (
      omega (arith, column_end c.args.ins ring.len c.next-place.result.at _ lt f.history_is),
      λ j hj. omega (arith, f.rows_in, f.narrow, row_end j c.args.ins c.args.to.stride hj, l.invariant.1, c.loop-t-test.true),
    )

pub loop-t-preserved : goal.loop-t-preserved
loop-t-preserved c =
    let ring = c.args.ring in
    let f = c.requires in
    let l = c.loop-t in
    let to : c.next-place.result.at ≡ next_place ring.len l.place.at = rw (ap (λ (r : Ring). r.at) c.next-place.ensures, l.invariant.2) in
    let q = fetch_place ring.len ring.at c.args.back l.t l.place.at _ f.place_in f.back_in (omega (arith, f.before, c.loop-t-test.true)) l.invariant.3 to in (
      search rules,
      omega (arith, c.fetch_column.auto.work, l.invariant.1),
      ap (λ (r : Ring). r.len) c.next-place.ensures ∙ l.invariant.2,
      q,
      fetch_turn _ _ _ _ _ _ _ l.t _ _ c.args.work.now l.work _ f c.loop-t-test.true q l.invariant.4 c.fetch_column.ensures,
    )
