-- The three tests in their order.
use mathlib.Core.Path.{◌∙◌}
use mathlib.Core.Logic.{⊎_elim}
use native.Mathlib.Omega.{arith}
use borrow.Author.Tests.{lt-ltb, le-ltb}
use Rattle.wna.specs.Opening.{no_room}
use Rattle.wna.proofs.opening.no_room.Goals as goal
use Rattle.wna.proofs.opening.no_room.Goals.{then-s-gt-MOST_HELD, else-s-gt-MOST_HELD}

pub returns-then-s-gt-MOST_HELD-2 : goal.returns-then-s-gt-MOST_HELD-2
unfolding no_room
returns-then-s-gt-MOST_HELD-2 c =
    elim c.if-s-gt-MOST_HELD.branch [ then-s-gt-MOST_HELD w ↦ w.t-4-is ∙ rw (lt-ltb _ _ w.if-s-gt-MOST_HELD.true) | else-s-gt-MOST_HELD w ↦ w.t-4-is ∙ ⊎_elim (λ a. absurd (omega (arith, a, w.if-s-gt-MOST_HELD.false))) (λ b. rw (le-ltb _ _ b.0, lt-ltb _ _ b.1)) c.if-s-gt-MOST_HELD-2.either ]

pub returns-else-s-gt-MOST_HELD-2 : goal.returns-else-s-gt-MOST_HELD-2
unfolding no_room
returns-else-s-gt-MOST_HELD-2 c = rw (le-ltb _ _ c.if-s-gt-MOST_HELD-2.false.0, le-ltb _ _ c.if-s-gt-MOST_HELD-2.false.1)
