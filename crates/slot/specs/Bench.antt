-- The buffers that a step changes, as the code lends them.
use Rattle.std.specs.Prelude.{◌≡◌}
use Rattle.slot.specs.declared.Bench.{Bench}

-- the same three borrows: each ends as what was written through it
pub record SameBench (b b' : Bench) : Type 0 where
  pub work : b'.work.ghost_name ≡ b.work.ghost_name
  pub histories : b'.histories.ghost_name ≡ b.histories.ghost_name
  pub positions : b'.positions.ghost_name ≡ b.positions.ghost_name
