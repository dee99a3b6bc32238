-- After t columns the memory is the one after t pushes, by `store_turn`.
use mathlib.Core.Path.{◌≡◌, sym, ◌∙◌, ap}
use Prim.Native.Nat.{ℕ, ◌+◌, ◌*◌}
use native.Mathlib.Omega.{arith}
use borrow.Author.Rules.{rules}
use Rattle.lists.specs.Tab.{at}
use Rattle.ring.specs.declared.Ring.{Ring}
use Rattle.ring.specs.Held.{held}
use Rattle.ring.specs.Place.{next_place}
use Rattle.ring.proofs.Blocks.{after_none}
use Rattle.history.proofs.Turns.{turn_sound, turn_fits, store_turn}
use Rattle.history.proofs.store.Goals as goal

pub loop-column-init : goal.loop-column-init
loop-column-init c = (search rules, search rules, search rules, sym (after_none _ _ _ _))

pub next-ring-requires : goal.next-ring-requires
next-ring-requires c =
    let loop = c.loop-column in
    rw loop.invariant.2 (turn_sound loop.column loop.ring.at _ (held c.args.memory.now) loop.memory.history.now c.requires loop.invariant.3).place_in

pub overflow_mul-base : goal.overflow_mul-base
overflow_mul-base c =
    let loop = c.loop-column in
    let to : c.next-ring.result.at ≡ next_place c.args.memory.now.ring.len loop.ring.at = rw (ap (λ (r : Ring). r.at) c.next-ring.ensures, loop.invariant.2) in
    omega (arith, turn_fits loop.ring.at c.next-ring.result.at loop.memory.history.now (turn_sound loop.column loop.ring.at _ (held c.args.memory.now) loop.memory.history.now c.requires loop.invariant.3) to)

pub store_column-requires : goal.store_column-requires
store_column-requires c =
    let loop = c.loop-column in
    let to : c.next-ring.result.at ≡ next_place c.args.memory.now.ring.len loop.ring.at = rw (ap (λ (r : Ring). r.at) c.next-ring.ensures, loop.invariant.2) in (
      turn_fits loop.ring.at c.next-ring.result.at loop.memory.history.now (turn_sound loop.column loop.ring.at _ (held c.args.memory.now) loop.memory.history.now c.requires loop.invariant.3) to,
      λ j hj. omega (arith, c.requires.block_in j hj, c.loop-column-test.true),
    )

pub loop-column-preserved : goal.loop-column-preserved
loop-column-preserved c =
    let args = c.args in
    let loop = c.loop-column in
    let to : c.next-ring.result.at ≡ next_place args.memory.now.ring.len loop.ring.at = rw (ap (λ (r : Ring). r.at) c.next-ring.ensures, loop.invariant.2) in
    let same : (j : ℕ) → args.block.first + loop.column + j * args.block.stride ≡ args.block.first + j * args.block.stride + loop.column = λ j. omega arith in (
      search rules,
      search rules,
      ap (λ (r : Ring). r.len) c.next-ring.ensures ∙ loop.invariant.2,
      store_turn _ args.memory.now.ring.len loop.column _ _ loop.memory.history.now _ loop.ring.at _ _ loop.invariant.3 to c.store_column.ensures (λ j hj. ap (at args.work.now) (same j)),
    )
