-- A layer and its buffers as the code lends them: what Layered, Slots and Pieces say, read off the structs.
use Rattle.std.specs.Prelude.{List, ℕ, length, Float}
use Rattle.description.specs.declared.records.ArrayRecord.{ArrayRecord}
use Rattle.description.specs.declared.records.LayerRecord.{LayerRecord}
use Rattle.description.specs.declared.places.Place.{Place}
use Rattle.slot.specs.declared.Bench.{Bench}
use Rattle.layer.specs.declared.Layer.{Layer}
use Rattle.layer.specs.Layered.{LayerFits, Layered}
use Rattle.layer.specs.Slots.{SlotsOf}
use Rattle.layer.specs.Pieces.{SitePast, ConvPast, Residual}

-- what a layer asks
pub record Ready (l : Layer) (b : Bench) : Type 0 where
  pub layer_fits : LayerFits l.array.now l.own.now l.slots.conv l.size l.columns (length b.work.now) b.histories.now b.positions.now l.weights.now
  pub slots_of : SlotsOf l.array.now l.own.now l.slots

-- what a piece does: P is Fronted, Mixed, GatedPast or Headed
abbrev pub Piece : (ArrayRecord → LayerRecord → Place → List Float → ℕ → ℕ → List Float → List Float → List ℕ → List Float → List Float → List ℕ → Type 0)
    → Layer → Bench → Bench → Type 0
Piece P l b b' =
    P l.array.now l.own.now l.slots.conv l.weights.now l.size l.columns b.work.now b.histories.now b.positions.now b'.work.now b'.histories.now b'.positions.now

abbrev pub SitePiece : Layer → Bench → Bench → ℕ → ℕ → ℕ → ℕ → Type 0
SitePiece l b b' i from to result =
    SitePast l.array.now l.own.now l.slots.conv l.weights.now l.size l.columns b.work.now b.histories.now b.positions.now b'.work.now b'.histories.now b'.positions.now
    i from to result

abbrev pub ConvPiece : Layer → Bench → Bench → ℕ → ℕ → ℕ → Type 0
ConvPiece l b b' k from to =
    ConvPast l.array.now l.own.now l.slots.conv l.weights.now l.size l.columns b.work.now b.histories.now b.positions.now b'.work.now b'.histories.now b'.positions.now
    k from to

abbrev pub LastPiece : Layer → Bench → Bench → ℕ → Type 0
LastPiece l b b' result =
    Residual l.array.now l.own.now l.slots.conv l.weights.now l.size l.columns b.work.now b.histories.now b.positions.now b'.work.now b'.histories.now b'.positions.now
    result

-- all pieces
abbrev pub Whole : Layer → Bench → Bench → ℕ → Type 0
Whole l b b' result =
    Layered l.array.now l.own.now l.slots.conv l.weights.now l.size l.columns result
    b.work.now b.histories.now b.positions.now b'.work.now b'.histories.now b'.positions.now
