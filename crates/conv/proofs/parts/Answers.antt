-- The columns before t are done; each part goes on from the memory after them, by `begun_more`.
use mathlib.Core.Path.{◌∙◌}
use Prim.Native.Nat.{◌+◌, ◌≤◌}
use native.Mathlib.Omega.{arith}
use borrow.Author.Rules.{rules}
use Rattle.conv.proofs.Cuts.{begun_none, part_fits, begun_more}
use Rattle.conv.proofs.parts.Goals as goal

pub loop-t-init : goal.loop-t-init
loop-t-init c = (search rules, search rules, search rules, begun_none _ _ _ _ _ _ _ _)

pub part-requires : goal.part-requires
part-requires c =
    let cut = c.width-columns.ensures in
    (part_fits c.requires c.loop-t.invariant.3 c.width-columns.result _ _ cut.some (omega (arith, cut.within, c.loop-t-test.true)) c.loop-t.invariant.2.1 c.loop-t.invariant.1, cut.whole)

pub loop-t-preserved : goal.loop-t-preserved
loop-t-preserved c =
    let loop = c.loop-t in
    let part = c.part in
    let le : loop.t + c.width-columns.result ≤ c.args.block.columns = omega (arith, c.width-columns.ensures.within, c.loop-t-test.true) in (
      le,
      omega (arith, part.auto.work, loop.invariant.1),
      (part.ensures.kept.0 ∙ loop.invariant.2.0, part.ensures.kept.1 ∙ loop.invariant.2.1),
      begun_more c.requires loop.invariant.3 c.width-columns.result _ _ le part.ensures.done,
    )
