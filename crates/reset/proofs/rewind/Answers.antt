-- `rewind` meets its contract. The loop's invariant: the positions of the parts passed, then the old ones (Filling).
use Rattle.std.specs.Prelude.{None}
use mathlib.Core.List.{◌++◌}
use mathlib.Core.Path.{subst, refl, sym, ◌∙◌, ap}
use Prim.Native.Nat.{ℕ, ◌+◌, ◌*◌, ◌<◌}
use native.Mathlib.Omega.{arith}
use lib.ListN.{get_or, length, take, drop}
use lib.Seq.{sets, length-sets}
use borrow.Author.Rules.{rules}
use Rattle.description.proofs.Sound.{layers_are, layers_of, length-parts, part_in_range}
use Rattle.description.specs.Parts.{parts_of}
use Rattle.description.specs.Ranges.{Fits}
use Rattle.description.specs.Sizes.{positions_of, total}
use Rattle.description.specs.Part.{Part}
use Rattle.reset.specs.Resets.{start_of, starts_of}
use Rattle.reset.proofs.Filling.{next-at, rewound_all, room, turn}
use Rattle.reset.proofs.rewind.Goals as goal

pub overflow_mul-count : goal.overflow_mul-count
overflow_mul-count c =
    let args = c.args in
    let pre = c.requires in
    omega (arith, layers_of args.description.now pre.a_value, (layers_are args.description.now pre.description_value).most)

pub overflow_add-count : goal.overflow_add-count
overflow_add-count c =
    let args = c.args in
    let pre = c.requires in
    omega (arith, layers_of args.description.now pre.a_value, (layers_are args.description.now pre.description_value).most)

pub loop-i-init : goal.loop-i-init
unfolding total starts_of
loop-i-init c =
    let pre = c.requires in (
      search rules,
      pre.description_value,
      pre.a_value,
      pre.positions_len,
      ap (λ (n : ℕ). 12 * n + 2) (layers_of c.args.description.now pre.a_value),
      refl,
      refl,
      refl,
    )

pub part_at-part-requires : goal.part_at-part-requires
part_at-part-requires c = record { description_value = c.loop-i.invariant.1; a_value = c.loop-i.invariant.2; i_bound = omega (arith, c.loop-i.invariant.4, c.loop-i-test.true) }

pub rewind_part-at-requires : goal.rewind_part-at-requires
rewind_part-at-requires c =
    let args = c.args in
    let loop = c.loop-i in
    let lt : loop.i < length (parts_of args.description.now) = omega (arith, length-parts args.description.now, loop.invariant.4, c.loop-i-test.true) in record { fits = subst Fits (sym c.part_at-part.ensures) (part_in_range args.description.now loop.invariant.1 loop.i); part_in_bounds = omega (arith, ap positions_of c.part_at-part.ensures, room (parts_of args.description.now) args.positions.now loop.i loop.at lt loop.invariant.3 loop.invariant.6, loop.invariant.5) }

pub loop-i-preserved : goal.loop-i-preserved
loop-i-preserved c =
    let args = c.args in
    let loop = c.loop-i in
    let part_at = c.part_at-part in
    let rewind-part = c.rewind_part-at in
    let lt : loop.i < length (parts_of args.description.now) = omega (arith, length-parts args.description.now, loop.invariant.4, c.loop-i-test.true) in
    let e = rewind-part.ensures.positions_after ∙ ap (λ (p : Part). sets loop.positions loop.at (start_of p)) part_at.ensures in
    let a = rewind-part.ensures.value ∙ ap (λ (p : Part). loop.at + positions_of p) part_at.ensures in (
      search rules,
      loop.invariant.1,
      loop.invariant.2,
      loop.invariant.3,
      loop.invariant.4,
      ap length e ∙ length-sets loop.positions loop.at (start_of (get_or (parts_of args.description.now) loop.i None)) ∙ loop.invariant.5,
      a ∙ next-at (parts_of args.description.now) args.positions.now loop.i loop.at lt loop.invariant.3 loop.invariant.6,
      e
          ∙ turn (parts_of args.description.now) args.positions.now loop.i loop.at lt loop.invariant.3 loop.invariant.6 loop.invariant.7
          ∙ ap (λ (n : ℕ). starts_of (take (loop.i + 1) (parts_of args.description.now)) ++ drop n args.positions.now) (sym a),
    )

pub returns : goal.returns
returns c =
    let args = c.args in
    rewound_all (parts_of args.description.now) args.positions.now c.loop-i.i c.loop-i.at (omega (arith, length-parts args.description.now, c.loop-i.invariant.4, c.loop-i-test.false)) c.loop-i.invariant.3 c.loop-i.invariant.6 c.loop-i.invariant.7
