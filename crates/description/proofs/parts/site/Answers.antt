-- `site` is absent exactly where its groups are 0; scales and shifts are 1 or 2 times its width (Slots).
use mathlib.Core.Path.{sym, ◌∙◌}
use Prim.Native.Nat.{◌^◌, ◌/◌}
use native.Mathlib.Omega.{arith}
use borrow.Author.Tests.{eq-eqb}
use Rattle.description.specs.Parts.{site_of, unless0}
use Rattle.description.proofs.Slots.{doubled_le, site_there, site_width_range}
use Rattle.description.proofs.parts.site.Goals as goal

pub returns-then-groups-eq0 : goal.returns-then-groups-eq0
unfolding site_of unless0
returns-then-groups-eq0 c = rw (eq-eqb _ _ (sym c.site_groups-groups.ensures ∙ c.if-groups-eq0.true))

pub overflow_mul-outs : goal.overflow_mul-outs
overflow_mul-outs c =
    let args = c.args in
    let pre = c.requires in
    record { fits = omega (arith, doubled_le c.site_width.result (args.r.shift_bits / 2 ^ args.i) (rw c.site_width.ensures (site_width_range pre.array_ranges pre.layer_ranges args.i pre.i_bound).most)) }

pub returns : goal.returns
returns c =
    let args = c.args in
    let site_groups_in = c.site_groups-groups in
    site_there args.a args.r args.i site_groups_in.result c.site_width.result site_groups_in.ensures c.if-groups-eq0.false c.site_width.ensures
