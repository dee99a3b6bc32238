-- Groups divide both sides of their convolution. Document 01, 'Description'.
use Rattle.std.specs.Prelude.{◌≡◌, ◌%◌}
use Rattle.shape.specs.declared.Shape.{Shape}

pub record Divided (sh : Shape) : Type 0 where
  pub ins_whole : sh.ins % sh.groups ≡ 0
  pub outs_whole : sh.outs % sh.groups ≡ 0
