-- Sizes that fit 32 bits each.
use Rattle.std.specs.Prelude.{◌<◌, ◌^◌}
use Rattle.description.specs.declared.answers.Sizes.{Sizes}

pub record Small (s : Sizes) : Type 0 where
  pub weights : s.weights < 2 ^ 32
  pub histories : s.histories < 2 ^ 32
  pub positions : s.positions < 2 ^ 32
  pub widest : s.widest < 2 ^ 32
  pub depth : s.depth < 2 ^ 32
