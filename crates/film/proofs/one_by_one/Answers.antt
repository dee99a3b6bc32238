-- `film::one_by_one` meets its contract. What is read was not written yet, so each store is the rule's, by `film-turn`.
use mathlib.Core.Path.{sym}
use borrow.Author.Rules.{rules}
use Rattle.film.proofs.Turn.{read_first, film_turn}
use Rattle.lists.proofs.Fill.{fill_none, fill_turn}
use Rattle.film.proofs.one_by_one.Goals as goal

pub loop-i-init : goal.loop-i-init
loop-i-init c =
    let pre = c.requires in
    (search rules, search rules, pre.0, pre.1, pre.2, sym (fill_none _ _ _))

pub loop-i-preserved : goal.loop-i-preserved
loop-i-preserved c =
    let args = c.args in
    let loop = c.loop-i in
    let loop-test = c.loop-i-test in
    let f = loop.invariant.2 in
    let lt = loop-test.true in
    let long = loop.invariant.1 in (
      search rules,
      search rules,
      f,
      loop.invariant.3,
      loop.invariant.4,
      fill_turn _ _ _ _ _ _ loop.invariant.5 (film_turn args.from loop.i args.work.now loop.work _ _ f lt loop.invariant.5 (read_first loop.invariant.4 lt) c.read-modulation.ensures c.apply.ensures),
    )
