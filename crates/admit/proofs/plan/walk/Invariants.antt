use mathlib.Core.Path.{◌≡◌}
use Prim.Native.Nat.{◌%◌}
use lib.ListN.{length}
use Rattle.std.specs.Slice.Iter.{chunks_exact_rest, chunks_exact_size}
use Rattle.turns.specs.Plan.{keeps_from}
use Rattle.admit.proofs.plan.walk.Given as goal

abbrev pub invariant-loop-pair : goal.invariant-loop-pair
invariant-loop-pair l =
    (chunks_exact_size l.pair-iterator ≡ 2) × (length (chunks_exact_rest l.pair-iterator) % 2 ≡ 0) × (length l.reached ≡ length l.initial.reached)
    × (keeps_from (length l.initial.reached) l.n l.reached (chunks_exact_rest l.pair-iterator) ≡ keeps_from (length l.initial.reached) l.n l.initial.reached l.plan)
