-- What a convolution and a layer did, of buffers that end as the bench's. Assumes nothing.
use mathlib.Core.Path.{◌≡◌}
use mathlib.Core.List.{List}
use Prim.Native.Nat.{ℕ}
use lib.Ieee.{Float}
use Rattle.shape.specs.declared.Shape.{Shape}
use Rattle.description.specs.declared.records.ArrayRecord.{ArrayRecord}
use Rattle.description.specs.declared.records.LayerRecord.{LayerRecord}
use Rattle.description.specs.declared.places.Place.{Place}
use Rattle.slot.specs.Play.{Played}
use Rattle.layer.specs.Layered.{Layered}

module _ {work histories work' histories' work'' histories'' : List Float} {positions positions' positions'' : List ℕ} (w : work'' ≡ work') (h : histories'' ≡ histories')
    (p : positions'' ≡ positions') where
  pub played_as : {sh : Shape} {at : Place} {weights : List Float} {m x out rows : ℕ} → Played sh at weights m x out rows work histories positions work' histories' positions'
      → Played sh at weights m x out rows work histories positions work'' histories'' positions''
  played_as d = rw (w, h, p) d

  pub layered_as : {a : ArrayRecord} {r : LayerRecord} {start : Place} {weights : List Float} {size m result : ℕ}
      → Layered a r start weights size m result work histories positions work' histories' positions'
      → Layered a r start weights size m result work histories positions work'' histories'' positions''
  layered_as d = rw (w, h, p) d
