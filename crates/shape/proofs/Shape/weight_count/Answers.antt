use native.Mathlib.Nat.{add-zero}
use Rattle.shape.specs.Counts.{weight_count}
use Rattle.shape.proofs.Bounds.{kernel_le}
use mathlib.Core.Path.{◌≡◌, sym}
use mathlib.Core.Bool.{false}
use borrow.Author.Rules.{rules}
use native.Mathlib.Omega.{arith}
use Rattle.shape.proofs.Shape.weight_count.Goals as goal

pub overflow_add-result : goal.overflow_add-result
overflow_add-result c = record { fits = omega (arith, kernel_le c.requires, c.kernel_count-count.ensures, c.requires.outs_high) }

pub returns-then-biased : goal.returns-then-biased
unfolding weight_count
returns-then-biased c = rw (c.if-biased.true, c.kernel_count-count.ensures)

pub returns : goal.returns
unfolding weight_count
returns c = let none : c.args.self.biased ≡ false = search rules in rw (none, c.kernel_count-count.ensures) (sym (add-zero _))
