-- `site_groups` picks the groups of site i: each arm by its number, the last since i is below 8.
use mathlib.Core.Path.{◌≡◌}
use native.Mathlib.Omega.{arith}
use Rattle.description.proofs.parts.site_groups.Goals as goal

pub returns-in_default : goal.returns-in_default
returns-in_default c = let e : c.args.i ≡ 7 = omega arith in rw e
