-- `rewind_part` stores the position of a part that is there, and nothing for an absent one.
use mathlib.Core.Path.{◌≡◌}
use native.Mathlib.Omega.{arith}
use Rattle.description.specs.Sizes.{positions_of}
use Rattle.reset.specs.Resets.{start_of}
use Rattle.shape.proofs.Bounds.{ring_le, ring_pos}
use Rattle.reset.proofs.rewind_part.Goals as goal

pub ring_length-length-requires : goal.ring_length-length-requires
ring_length-length-requires c = c.requires.fits.shape _ c.in-Some.is

pub overflow_sub-positions : goal.overflow_sub-positions
overflow_sub-positions c = omega (arith, ring_pos (c.requires.fits.shape _ c.in-Some.is), c.ring_length-length.ensures)

pub overflow_cast-positions : goal.overflow_cast-positions
overflow_cast-positions c = record { fits = omega (arith, ring_le (c.requires.fits.shape _ c.in-Some.is), c.ring_length-length.ensures) }

pub bounds-positions-at : goal.bounds-positions-at
unfolding positions_of
bounds-positions-at c = let one : positions_of c.args.part ≡ 1 = rw c.in-Some.is in omega (arith, c.requires.part_in_bounds)

pub returns-in-None : goal.returns-in-None
unfolding positions_of start_of
returns-in-None c = record { value = rw c.in-None.is (omega arith); positions_after = rw c.in-None.is }

pub returns-in-Some : goal.returns-in-Some
unfolding positions_of start_of
returns-in-Some c = record { value = rw c.in-Some.is; positions_after = rw (c.in-Some.is, c.ring_length-length.ensures) }
