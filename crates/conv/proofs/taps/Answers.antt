-- One tap more a turn, by `all_more`.
use mathlib.Core.Path.{◌≡◌}
use native.Mathlib.Omega.{arith}
use borrow.Author.Rules.{rules}
use Rattle.conv.proofs.Blocks.{all_none, all_more}
use Rattle.conv.proofs.taps.Goals as goal

pub loop-k-init : goal.loop-k-init
loop-k-init c =
    let pre = c.requires in
    (search rules, search rules, all_none pre.0 _ _ _)

pub loop-k-preserved : goal.loop-k-preserved
loop-k-preserved c =
    let pre = c.requires in
    let args = c.args in
    let loop = c.loop-k in
    let read-tap = c.read_tap in (
      search rules,
      omega (arith, read-tap.auto.work, loop.invariant.1),
      all_more pre.0 _ args.work.now _ loop.work _ _ loop.invariant.2 read-tap.ensures,
    )

pub returns : goal.returns
returns c =
    let args = c.args in
    let loop = c.loop-k in
    let e : loop.k ≡ args.filter.now.shape.kernel = omega arith in rw e at loop.invariant.2
