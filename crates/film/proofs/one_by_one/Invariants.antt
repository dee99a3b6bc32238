use mathlib.Core.Path.{◌≡◌}
use Prim.Native.Nat.{◌+◌, ◌-◌, ◌≤◌}
use lib.ListN.{length}
use Rattle.film.specs.Fits.{FilmFits, ReadFirst}
use Rattle.film.specs.Modulated.{filmed}
use Rattle.lists.specs.Tab.{fill}
use Rattle.film.proofs.one_by_one.Given as goal

abbrev pub invariant-loop-i : goal.invariant-loop-i
invariant-loop-i l =
    (l.i ≤ l.n) × (length l.work ≡ length l.initial.work) × FilmFits (length l.initial.work) l.to l.s l.n l.shifted × (l.from + l.n ≤ length l.initial.work) × ReadFirst l.to l.from l.n
    × (l.work ≡ fill l.to l.i (filmed l.shifted l.s l.n l.initial.work l.from) l.initial.work)

abbrev pub decreases-loop-i : goal.decreases-loop-i
decreases-loop-i l = l.n - l.i
