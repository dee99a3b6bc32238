-- What is promised of the answers on a description: document 01's number, and the values where nothing is refused.
use Rattle.std.specs.Prelude.{◌≡◌, List, [], ◌∷◌, cond, ℕ, eqb, Err, Ok}
use Rattle.refusal.specs.Number.{number_of}
use Rattle.description.specs.Records.{layer_of}
use Rattle.description.specs.Sizes.{sizes_of}
use Rattle.description.specs.Refusals.{breaks_layer, refusal_of}
use Rattle.description.specs.Checked.{Checked, LayerAnswer}
use Rattle.description.specs.declared.records.LayerRecord.{LayerRecord}
use Rattle.description.specs.declared.answers.Sizes.{Sizes}

-- the counts of weights, histories and positions, W, and the memory depth
unfoldable pub listed : Sizes → List ℕ
listed s = s.weights ∷ s.histories ∷ s.positions ∷ s.widest ∷ s.depth ∷ []

-- the values of a check's answer; none where it is refused
unfoldable pub values_of : Checked → List ℕ
values_of (Err refusal) = []
values_of (Ok s) = listed s

-- what is promised of the answer on description d
pub record Answers (d : List ℕ) (r : Checked) : Type 0 where
  pub number : number_of r ≡ refusal_of d
  pub values : values_of r ≡ cond (eqb (refusal_of d) 0) (listed (sizes_of d)) []

-- the record of a layer's answer; none where a number breaks its range or its zero rule
unfoldable pub records_of : LayerAnswer → List LayerRecord
records_of (Err refusal) = []
records_of (Ok r) = r ∷ []

-- what is promised of the answer on layer l
pub record LayerAnswers (d : List ℕ) (l : ℕ) (r : LayerAnswer) : Type 0 where
  pub number : number_of r ≡ cond (breaks_layer d l) 2 0
  pub values : records_of r ≡ cond (breaks_layer d l) [] (layer_of d l ∷ [])
