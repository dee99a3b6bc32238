-- The loop keeps UnderWay: the stages before k have taken all columns, the others none (InOrder).
use mathlib.Core.Path.{refl, sym, ◌∙◌, ap}
use Prim.Native.Nat.{ℕ, ◌+◌}
use native.Mathlib.Numerals.{add-one}
use native.Mathlib.Omega.{arith}
use borrow.Author.Rules.{rules}
use Rattle.description.proofs.Sound.{length_is, layers_are, layers_of}
use Rattle.array.specs.Turn.{start_of}
use Rattle.calls.proofs.UnderWay.{turn_fits, blocks_fit}
use Rattle.calls.proofs.InOrder.{start_first, block_begins, block_goes_on, block_ends}
use Rattle.calls.proofs.stages.stages_in_order.Goals as goal

pub read_array-a-requires : goal.read_array-a-requires
read_array-a-requires c = omega (arith, length_is c.args.sources.now.description.now c.requires.admitted.described)

pub overflow_add-stages : goal.overflow_add-stages
overflow_add-stages c = omega (arith, (layers_are c.args.sources.now.description.now c.requires.admitted.described).most, layers_of c.args.sources.now.description.now c.read_array-a.ensures)

pub loop-k-init : goal.loop-k-init
loop-k-init c = (search rules, ap (λ (x : ℕ). x + 2) (layers_of c.args.sources.now.description.now c.read_array-a.ensures), start_first c.args.sources.now.description.now, c.requires, block_begins _ c.requires, refl, search rules)

pub turn-start-requires : goal.turn-start-requires
turn-start-requires c =
    record { stage_fits = turn_fits _ c.loop-k.invariant.3 c.loop-k.invariant.4 _ c.loop-k.k (omega (arith, c.loop-k-test.true, c.loop-k.invariant.1)) refl refl c.requires.some (omega arith) c.loop-k.invariant.2; blocks_fit = blocks_fit _ c.loop-k.invariant.3 c.loop-k.invariant.4 }

pub loop-k-preserved : goal.loop-k-preserved
loop-k-preserved c =
    let l = c.loop-k in (
      omega (arith, c.loop-k-test.true),
      l.invariant.1,
      c.turn-start.ensures.value ∙ ap (start_of c.args.sources.now.description.now) (sym (add-one l.k)),
      l.invariant.3,
      block_goes_on _ l.invariant.3 l.invariant.4 (omega (arith, c.loop-k-test.true, l.invariant.1)) c.turn-start.ensures.turn_done c.turn-start.ensures.placed c.turn-start.ensures.same.head_long c.turn-start.ensures.same.array_long c.turn-start.auto.scratch,
      l.invariant.5,
      search rules,
    )

pub returns : goal.returns
returns c =
    record {
      done = block_ends _ c.loop-k.invariant.3 c.loop-k.invariant.4 (omega (arith, c.loop-k-test.false, c.loop-k.invariant.0, c.loop-k.invariant.1));
      same = c.loop-k.invariant.6;
    }
