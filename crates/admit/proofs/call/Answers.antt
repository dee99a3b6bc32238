-- `call` meets its contract: each way out by what its test told (Admitting).
use mathlib.Core.Path.{subst, sym}
use native.Mathlib.Omega.{arith}
use Rattle.refusal.proofs.PassedOn.{passed_on}
use Rattle.description.proofs.Sound.{array_in_range, length_is}
use Rattle.description.specs.Ranges.{ArrayRanges}
use Rattle.array.specs.Buffers.{lent_shared}
use Rattle.admit.proofs.Admitting.{described, done, far_position, many_columns, other_lengths, positions_are, refused, widest_low}
use Rattle.admit.proofs.call.Goals as goal

pub returns-in_err-sizes : goal.returns-in_err-sizes
returns-in_err-sizes c = rw (passed_on c.from_residual.result c.from_residual.ensures) (refused _ _ c.check.ensures c.in_err-sizes.was)

pub returns-then-n-gt-MOST_COLUMNS : goal.returns-then-n-gt-MOST_COLUMNS
returns-then-n-gt-MOST_COLUMNS c = many_columns _ _ c.check.ensures c.in_ok-sizes.was c.if-n-gt-MOST_COLUMNS.true

pub read_array-a-requires : goal.read_array-a-requires
read_array-a-requires c =
    let args = c.args in
    let b = lent_shared args.sources.now args.buffers.now args.scratch.now in
    omega (arith, length_is args.sources.now.description.now (described b args.n c.check.ensures c.in_ok-sizes.was))

pub differ-requires : goal.differ-requires
differ-requires c =
    let check = c.check in
    let args = c.args in
    let b = lent_shared args.sources.now args.buffers.now args.scratch.now in
    record { array_ranges = subst ArrayRanges (sym c.read_array-a.ensures) (array_in_range args.sources.now.description.now (described b args.n check.ensures c.in_ok-sizes.was)); widest_bound = widest_low b args.n check.ensures c.in_ok-sizes.was; n_bound = c.if-n-gt-MOST_COLUMNS.false }

pub returns-then-differ : goal.returns-then-differ
returns-then-differ c = other_lengths _ _ c.check.ensures c.in_ok-sizes.was c.if-n-gt-MOST_COLUMNS.false c.read_array-a.ensures c.differ.ensures c.if-differ.true

pub places_beyond-requires : goal.places_beyond-requires
places_beyond-requires c =
    let check = c.check in
    let read-array = c.read_array-a in
    let args = c.args in
    let b = lent_shared args.sources.now args.buffers.now args.scratch.now in
    record { description_value = described b args.n check.ensures c.in_ok-sizes.was; a_value = read-array.ensures; positions_len = positions_are b args.n check.ensures c.in_ok-sizes.was c.if-n-gt-MOST_COLUMNS.false read-array.ensures c.differ.ensures c.if-differ.false }

pub returns-then-places_beyond : goal.returns-then-places_beyond
returns-then-places_beyond c = far_position _ _ c.check.ensures c.in_ok-sizes.was c.if-n-gt-MOST_COLUMNS.false c.read_array-a.ensures c.differ.ensures c.if-differ.false c.places_beyond.ensures c.if-places_beyond.true

pub returns : goal.returns
returns c = done _ _ c.check.ensures c.in_ok-sizes.was c.if-n-gt-MOST_COLUMNS.false c.read_array-a.ensures c.differ.ensures c.if-differ.false c.places_beyond.ensures c.if-places_beyond.false
