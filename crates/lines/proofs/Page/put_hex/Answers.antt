-- The loop's invariant: the digits passed are written (Lining).
use mathlib.Core.Path.{◌≡◌, refl}
use Prim.Native.Nat.{◌^◌, ◌*◌, ◌-◌, ◌/◌, ◌%◌}
use native.Mathlib.Omega.{arith}
use borrow.Author.Rules.{rules}
use Rattle.lists.proofs.Tab.{length-tab}
use Rattle.lines.specs.Text.{hex_digit, hex_of}
use Rattle.lines.proofs.Lining.{room_left, rule_more, rule_none}
use Rattle.lines.proofs.Page.put_hex.Goals as goal

pub loop-i-init : goal.loop-i-init
loop-i-init c = (search rules, refl, c.requires, rule_none _ _ _ (omega (arith, c.requires)))

pub put-requires : goal.put-requires
put-requires c = room_left 8 1 c.requires c.loop-i.invariant.3 (omega (arith, length-tab c.loop-i.i (λ i. hex_digit (c.args.bits / 2 ^ (28 - 4 * i) % 16)), c.loop-i-test.true))

pub loop-i-preserved : goal.loop-i-preserved
loop-i-preserved c = (search rules, search rules, c.requires, rule_more _ _ c.loop-i.invariant.3 c.put.ensures.wrote c.hex_digit.ensures)

pub returns : goal.returns
unfolding hex_of
returns c = let e : c.loop-i.i ≡ 8 = omega arith in record { same_reference = c.loop-i.invariant.1; wrote = rw e at c.loop-i.invariant.3 }
