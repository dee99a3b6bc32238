-- One group more a turn, by `groups_turn`.
use mathlib.Core.Path.{◌≡◌, sym}
use Prim.Native.Nat.{◌*◌}
use native.Mathlib.Omega.{arith}
use borrow.Author.Rules.{rules}
use Rattle.shape.proofs.Groups.{outs_are}
use Rattle.lists.proofs.Rows.{rows_none}
use Rattle.shape.specs.Counts.{outputs_per_group}
use Rattle.column.proofs.OneColumn.{groups_turn}
use Rattle.column.proofs.outputs.Goals as goal

pub loop-g-init : goal.loop-g-init
loop-g-init c =
    let args = c.args in
    let none : 0 * outputs_per_group args.filter.now.shape ≡ 0 = omega arith in (search rules, search rules, rw none (rows_none _ _ _ _ _))

pub loop-g-preserved : goal.loop-g-preserved
loop-g-preserved c =
    let args = c.args in
    let loop = c.loop-g in
    let group-outputs = c.group_outputs in (
      search rules,
      omega (arith, group-outputs.auto.work, loop.invariant.1),
      groups_turn args.filter.now.shape args.filter.now.weights.now _ _ loop.work _ _ _ loop.g _ loop.invariant.2 group-outputs.ensures,
    )

pub returns : goal.returns
returns c =
    let args = c.args in
    let pre = c.requires in
    let loop = c.loop-g in
    let e : loop.g ≡ args.filter.now.shape.groups = omega arith in
    let all : loop.g * outputs_per_group args.filter.now.shape ≡ args.filter.now.shape.outs = rw e (sym (outs_are pre.0.divided)) in
    rw all at loop.invariant.2
