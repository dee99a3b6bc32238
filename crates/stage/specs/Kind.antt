-- What a stage is by its number.
use Rattle.std.specs.Prelude.{cond, ℕ, zero, suc, ltb}
use Rattle.stage.specs.declared.kind.Stage.{Stage}
use Rattle.stage.specs.declared.kind.Stage.TheVariants.{Rechannel, Layer, HeadRechannel}

unfoldable pub stage_of : ℕ → ℕ → Stage
stage_of zero layers = Rechannel
stage_of (suc l) layers = cond (ltb l layers) (Layer l) HeadRechannel
