-- The loop stores the starts of the stages before k.
use mathlib.Core.Path.{sym, ◌∙◌, ap}
use Prim.Native.Nat.{ℕ, ◌+◌, ◌<◌}
use native.Mathlib.Numerals.{add-one}
use native.Mathlib.Omega.{arith}
use borrow.Author.Rules.{rules}
use Rattle.description.proofs.Sound.{length_is, layers_are, layers_of}
use Rattle.array.specs.Turn.{start_of}
use Rattle.calls.proofs.InOrder.{start_first}
use Rattle.calls.proofs.Starting.{start_stored}
use Rattle.calls.proofs.starts.starts.Goals as goal

pub read_array-a-requires : goal.read_array-a-requires
read_array-a-requires c = omega (arith, length_is c.args.description.now c.requires)

pub overflow_add-stages : goal.overflow_add-stages
overflow_add-stages c = omega (arith, (layers_are c.args.description.now c.requires).most, layers_of c.args.description.now c.read_array-a.ensures)

pub loop-k-init : goal.loop-k-init
loop-k-init c = (search rules, ap (λ (x : ℕ). x + 2) (layers_of c.args.description.now c.read_array-a.ensures), c.requires, c.read_array-a.ensures, start_first c.args.description.now, search rules, λ j (h : j < 0). absurd (omega (arith, h)))

pub bounds-places-k : goal.bounds-places-k
bounds-places-k c = omega (arith, c.loop-k-test.true, c.loop-k.invariant.1, (layers_are c.args.description.now c.loop-k.invariant.2).most)

pub offset_bounds-places-k : goal.offset_bounds-places-k
offset_bounds-places-k c = omega (arith, c.loop-k-test.true, c.loop-k.invariant.1, (layers_are c.args.description.now c.loop-k.invariant.2).most)

pub after_stage-start-requires : goal.after_stage-start-requires
after_stage-start-requires c = record { description_value = c.loop-k.invariant.2; a_value = (c.loop-k.invariant.3, omega (arith, c.loop-k-test.true, c.loop-k.invariant.1), c.loop-k.invariant.4) }

pub loop-k-preserved : goal.loop-k-preserved
loop-k-preserved c =
    let l = c.loop-k in (
      omega (arith, c.loop-k-test.true),
      l.invariant.1,
      l.invariant.2,
      l.invariant.3,
      c.after_stage-start.ensures ∙ ap (start_of c.args.description.now) (sym (add-one l.k)),
      search rules,
      start_stored c.args.description.now l.places l.k (omega (arith, c.loop-k-test.true, l.invariant.1, l.invariant.5, (layers_are c.args.description.now l.invariant.2).most)) l.invariant.4 l.invariant.6,
    )

pub returns : goal.returns
returns c =
    let l = c.loop-k in
    record { each = λ k h. l.invariant.6 k (omega (arith, h, c.loop-k-test.false, l.invariant.1)) }
