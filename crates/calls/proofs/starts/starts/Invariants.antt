use mathlib.Core.Path.{◌≡◌}
use Prim.Native.Nat.{ℕ, ◌-◌, ◌≤◌, ◌<◌}
use lib.ListN.{length, get_or}
use Rattle.description.specs.Records.{array_of}
use Rattle.description.specs.Refusals.{refusal_of}
use Rattle.array.specs.Stages.{stage_count}
use Rattle.array.specs.Turn.{start_of}
use Rattle.calls.specs.Fit.{nowhere}
use Rattle.calls.proofs.starts.starts.Given as goal

abbrev pub invariant-loop-k : goal.invariant-loop-k
invariant-loop-k l =
    (l.k ≤ l.stages) × (l.stages ≡ stage_count l.description) × (refusal_of l.description ≡ 0) × (l.a ≡ array_of l.description) × (l.start ≡ start_of l.description l.k)
    × (length l.places ≡ 26) × ((j : ℕ) → j < l.k → get_or l.places j nowhere ≡ start_of l.description j)

abbrev pub decreases-loop-k : goal.decreases-loop-k
decreases-loop-k l = l.stages - l.k
