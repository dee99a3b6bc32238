-- One place more.
use Rattle.std.proofs.Common.{rules, ◌<◌, ◌≢◌, length, arith, get_or-set_other, get_or-set_same, below_more, refl}
use Rattle.wna.proofs.words.fill_by.Goals as goal

pub loop-i-preserved : goal.loop-i-preserved
loop-i-preserved g c = (
  refl,
  search rules,
  λ d. below_more _ _
      (λ k h. let ne : k ≢ c.loop-i.i = omega arith in rw get_or-set_other (c.loop-i.invariant.2 d k h))
      (let lt : c.loop-i.i < length c.loop-i.out = omega (arith, c.loop-i-test.true, c.loop-i.invariant.1) in rw get_or-set_same c.rule.ensures),
)

pub returns : goal.returns
returns g c = λ d k h. c.loop-i.invariant.2 d k (omega (arith, h, c.loop-i-test.false))
