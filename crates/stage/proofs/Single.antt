-- A stage of one part: over the columns of a turn it remembers and gives what the recurrence says. Assumes nothing.
use Rattle.std.specs.Prelude.{Some}
use mathlib.Core.Path.{◌≡◌, sym, ◌∙◌, ap}
use mathlib.Core.List.{List, [], ◌∷◌}
use Prim.Native.Nat.{ℕ, zero, suc, ◌+◌}
use lib.Ieee.{Float}
use Rattle.lists.specs.Region.{Holds}
use Rattle.ring.specs.Memory.{Memory}
use Rattle.shape.specs.declared.Shape.{Shape}
use Rattle.turns.specs.Turn.{run_from}
use Rattle.description.specs.declared.places.Place.{Place}
use Rattle.slot.specs.View.{weights_in, memory_in}
use Rattle.slot.specs.Steps.{pushed, convolved}
use Rattle.slot.specs.Play.{Played}
use Rattle.slot.proofs.Trace.{play_trace}
use Rattle.array.specs.Stages.{Column, memory_at}

-- stage k pushes what f takes from a column; s is what it remembers at first
module _ (nx : ℕ → List Memory → Column → List Memory) (ou : ℕ → List Memory → Column → Column) (k : ℕ) (sh : Shape) (f : Column → ℕ → Float)
    (pushes : (s : List Memory) (v : Column) → nx k s v ≡ pushed (Some sh) (memory_at s 0) (f v) ∷ [])
    {at : Place} {weights : List Float} {m x out rows : ℕ} {work histories : List Float} {positions : List ℕ} {work' histories' : List Float} {positions' : List ℕ}
    (played : Played sh at weights m x out rows work histories positions work' histories' positions')
    (from : ℕ) (u : ℕ → Column) (held : Holds x sh.ins m (λ c t. f (u (from + t)) c) work)
    (s : List Memory) (starts : s ≡ memory_in (Some sh) at histories positions ∷ []) where
  -- what it remembers after t columns
  abbrev run : ℕ → List Memory
  run t = run_from nx ou k s from u t

  step : (t : ℕ) → run (suc t) ≡ pushed (Some sh) (memory_at (run t) 0) (f (u (from + t))) ∷ []
  unfolding run_from
  step t = pushes (run t) (u (from + t))

  begin : run 0 ≡ memory_in (Some sh) at histories positions ∷ []
  unfolding run_from
  begin = starts

  traced : Holds out sh.outs m (λ o t. convolved (Some sh) (weights_in (Some sh) at weights) (memory_at (run (suc t)) 0) o) work'
      × (memory_in (Some sh) at histories' positions' ≡ memory_at (run m) 0)
  traced =
      play_trace played {f = λ t. f (u (from + t))} held (λ t. memory_at (run t) 0)
      (ap (λ (l : List Memory). memory_at l 0) begin)
      (λ t. ap (λ (l : List Memory). memory_at l 0) (step t))

  one_only : (t : ℕ) → run t ≡ memory_at (run t) 0 ∷ []
  one_only zero = begin ∙ ap (λ (l : List Memory). memory_at l 0 ∷ []) (sym begin)
  one_only (suc t) = step t ∙ ap (λ (l : List Memory). memory_at l 0 ∷ []) (sym (step t))

  pub single_remembers : memory_in (Some sh) at histories' positions' ∷ [] ≡ run m
  single_remembers = ap (λ (r : Memory). r ∷ []) traced.1 ∙ sym (one_only m)

  pub single_gives : Holds out sh.outs m
      (λ o t. convolved (Some sh) (weights_in (Some sh) at weights) (pushed (Some sh) (memory_at (run t) 0) (f (u (from + t)))) o) work'
  single_gives = record {
    is = λ o t ho ht. traced.0.is o t ho ht
        ∙ ap (λ (l : List Memory). convolved (Some sh) (weights_in (Some sh) at weights) (memory_at l 0) o) (step t);
  }
