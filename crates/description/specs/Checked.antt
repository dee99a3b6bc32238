-- What the checks answer: a description's sizes, or its refusal; a layer's record, or its refusal.
use Rattle.std.specs.Prelude.{Result}
use Rattle.refusal.specs.declared.Refusal.{Refusal}
use Rattle.description.specs.declared.answers.Sizes.{Sizes}
use Rattle.description.specs.declared.records.LayerRecord.{LayerRecord}

abbrev pub Checked : Type 0
Checked = Result Sizes Refusal

abbrev pub LayerAnswer : Type 0
LayerAnswer = Result LayerRecord Refusal
