-- `part` passes one part: a position that is there against its ring's length.
use mathlib.Core.List.{[], ◌∷◌}
use mathlib.Core.Path.{◌∙◌, ◌≡◌, ap, sym}
use native.Mathlib.Omega.{arith}
use Rattle.description.specs.Sizes.{positions_of}
use Rattle.description.specs.Part.{Part}
use Rattle.admit.specs.Passes.{passed}
use Rattle.admit.proofs.Passing.{passed_absent, passed_there}
use Rattle.admit.proofs.places.Pass.part.Goals as goal

pub bounds-positions-at : goal.bounds-positions-at
unfolding positions_of
bounds-positions-at c =
    let one : positions_of c.args.part ≡ 1 = rw c.in-Some.is in
    omega (arith, c.requires.part_in_bounds)

pub ring_length-requires : goal.ring_length-requires
ring_length-requires c = c.requires.fits.shape _ c.in-Some.is

pub returns-in-None : goal.returns-in-None
returns-in-None c = rw c.in-None.is (passed_absent _ _)

pub returns-in-Some : goal.returns-in-Some
unfolding positions_of
returns-in-Some c =
    let args = c.args in
    let one : positions_of args.part ≡ 1 = rw c.in-Some.is in
    passed_there args.positions.now args.self _ (omega (arith, c.requires.part_in_bounds)) c.ring_length.ensures ∙ ap (λ (p : Part). passed args.positions.now args.self (p ∷ [])) (sym c.in-Some.is)
