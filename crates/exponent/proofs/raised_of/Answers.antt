-- `raised_of` is the definition's exponent and power: two splits of small numbers, each as it is defined.
use Rattle.exponent.specs.Exp.{scaled}
use Rattle.exponent.specs.Split.{parts}
use Rattle.exponent.proofs.Ranges.{scaled_small, scaled_back, whole_small, exponent_small, raised_is}
use Rattle.exponent.proofs.Signed.{back}
use mathlib.Core.Path.{◌≡◌, ◌∙◌, ap}
use native.Mathlib.Omega.{arith}
use borrow.Author.Rules.{rules}
use Rattle.exponent.proofs.raised_of.Goals as goal

pub split-k-requires : goal.split-k-requires
split-k-requires c =
    let b = c.args.bits in
    let h = c.requires in
    rw (scaled_back b h c.scaled_of.result c.scaled_of.ensures) (scaled_small b h, search rules)

pub split-j-requires : goal.split-j-requires
split-j-requires c =
    let b = c.args.bits in
    let h = c.requires in
    let k = c.split-k.result in
    let e1 : k ≡ parts (scaled b) 16777216 =
    c.split-k.ensures.is ∙ ap (λ z. parts z 16777216) (scaled_back b h c.scaled_of.result c.scaled_of.ensures)
    in
    let s1 = whole_small b h k e1 in
    rw (back k.quotient (omega arith)) (s1, search rules)

pub returns : goal.returns
returns c =
    let b = c.args.bits in
    let h = c.requires in
    let k = c.split-k.result in
    let e1 : k ≡ parts (scaled b) 16777216 =
    c.split-k.ensures.is ∙ ap (λ z. parts z 16777216) (scaled_back b h c.scaled_of.result c.scaled_of.ensures)
    in
    let s1 = whole_small b h k e1 in
    let j = c.split-j.result in
    let e2 : j ≡ parts k.quotient 256 = c.split-j.ensures.is ∙ ap (λ z. parts z 256) (back k.quotient (omega arith)) in
    let s2 = exponent_small b h k j e1 e2 in
    rw (back j.quotient (omega arith)) (raised_is b k j c.power_of.result e1 e2 c.power_of.ensures)
