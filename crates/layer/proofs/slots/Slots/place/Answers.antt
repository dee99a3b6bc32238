-- The last arm's number is the only one that is left.
use mathlib.Core.Path.{◌≡◌}
use native.Mathlib.Omega.{arith}
use Rattle.layer.proofs.slots.Slots.place.Goals as goal

pub returns-in_default : goal.returns-in_default
returns-in_default c =
    let e : c.args.k ≡ 11 = omega arith in
    rw e
