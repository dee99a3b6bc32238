-- What a layer asks of its buffers it may ask again after each piece. Assumes nothing.
use Prim.Native.Nat.{ℕ}
use Rattle.slot.specs.declared.Bench.{Bench}
use Rattle.layer.specs.declared.Layer.{Layer}
use Rattle.layer.specs.Held.{Ready}
use Rattle.layer.specs.Pieces.{Leaves}
use Rattle.layer.proofs.Whole.{fits_on}

pub ready_on : {l : Layer} {b b' : Bench} {P : ℕ → Type 0} → Ready l b
    → Leaves l.array.now l.own.now l.slots.conv l.weights.now l.size l.columns b.work.now b.histories.now b.positions.now b'.work.now b'.histories.now b'.positions.now P
    → Ready l b'
ready_on r leaves = record { layer_fits = fits_on r.layer_fits leaves; slots_of = r.slots_of }
