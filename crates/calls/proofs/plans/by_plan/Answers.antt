-- As many numbers as there are stages are lent of each array, those of `reached` zeros.
use mathlib.Core.Path.{ap}
use Prim.Native.Nat.{ℕ, ◌+◌, ◌≤◌}
use native.Mathlib.Omega.{arith}
use Rattle.description.proofs.Sound.{length_is, layers_are, layers_of}
use Rattle.calls.proofs.Starting.{zeros_cut}
use Rattle.calls.proofs.plans.by_plan.Goals as goal

pub read_array-a-requires : goal.read_array-a-requires
read_array-a-requires c = omega (arith, length_is c.args.sources.now.description.now c.requires.fit.admitted.described)

pub overflow_add-stages : goal.overflow_add-stages
overflow_add-stages c = omega (arith, (layers_are c.args.sources.now.description.now c.requires.fit.admitted.described).most, layers_of c.args.sources.now.description.now c.read_array-a.ensures)

pub slice_bounds-reached-end : goal.slice_bounds-reached-end
slice_bounds-reached-end c = omega (arith, (layers_are c.args.sources.now.description.now c.requires.fit.admitted.described).most, layers_of c.args.sources.now.description.now c.read_array-a.ensures)

pub turns_in_order-requires : goal.turns_in_order-requires
turns_in_order-requires c =
    let is = ap (λ (x : ℕ). x + 2) (layers_of c.args.sources.now.description.now c.read_array-a.ensures) in
    let le : c.read_array-a.result.layers + 2 ≤ 26 = omega (arith, (layers_are c.args.sources.now.description.now c.requires.fit.admitted.described).most, layers_of c.args.sources.now.description.now c.read_array-a.ensures) in
    record { fit = c.requires.fit; plan_value = c.requires.plan_value; reached_value = zeros_cut _ _ is le; starts = c.starts-places.ensures }
