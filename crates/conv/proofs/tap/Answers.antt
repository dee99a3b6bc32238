-- One group more a turn, by `tap_turn`.
use mathlib.Core.Path.{◌≡◌, sym}
use Prim.Native.Nat.{◌*◌}
use native.Mathlib.Omega.{arith}
use borrow.Author.Rules.{rules}
use Rattle.shape.proofs.Groups.{outs_are}
use Rattle.lists.proofs.Rows.{rows_none}
use Rattle.shape.specs.Counts.{outputs_per_group}
use Rattle.conv.proofs.Rows.{tap_turn}
use Rattle.conv.proofs.tap.Goals as goal

pub loop-g-init : goal.loop-g-init
loop-g-init c = let none : 0 * outputs_per_group c.args.filter.now.shape ≡ 0 = omega arith in (search rules, search rules, rw none (rows_none _ _ _ _ _))

pub loop-g-preserved : goal.loop-g-preserved
loop-g-preserved c =
    let pre = c.requires in
    let args = c.args in
    let loop = c.loop-g in
    let loop-test = c.loop-g-test in
    let tap-group = c.tap_group in (
      search rules,
      omega (arith, tap-group.auto.work, loop.invariant.1),
      tap_turn (pre) _ args.work.now loop.work _ loop.g loop-test.true loop.invariant.2 tap-group.ensures,
    )

pub returns : goal.returns
returns c =
    let args = c.args in
    let pre = c.requires in
    let loop = c.loop-g in
    let e : loop.g ≡ args.filter.now.shape.groups = omega arith in
    let all : loop.g * outputs_per_group args.filter.now.shape ≡ args.filter.now.shape.outs = rw e (sym (outs_are pre.divided)) in
    rw all at loop.invariant.2
