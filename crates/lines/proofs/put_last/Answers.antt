-- A refusal's number is not 0. (The other case needs no more than the text of the line.)
use borrow.Author.Tests.{ne_eqb}
use mathlib.Core.Path.{◌≡◌}
use native.Mathlib.Omega.{arith}
use Rattle.refusal.specs.Number.{number}
use Rattle.refusal.proofs.Named.{number_above}
use Rattle.lines.specs.Text.{last_of}
use Rattle.lines.proofs.put_last.Goals as goal

pub returns-in-Err : goal.returns-in-Err
unfolding last_of
returns-in-Err c =
    let some : number c.in-Err.refusal ≡ 0 → ⊥ = λ e. omega (arith, e, number_above c.in-Err.refusal) in
    rw (c.in-Err.is, ne_eqb _ _ some) (rw c.from.ensures at c.put_named-in-Err.ensures)
