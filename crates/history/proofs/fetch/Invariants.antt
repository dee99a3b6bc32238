use mathlib.Core.Path.{◌≡◌}
use Prim.Native.Nat.{◌-◌, ◌≤◌}
use lib.ListN.{length}
use Rattle.ring.specs.Place.{place_back}
use Rattle.ring.specs.Memory.{past}
use Rattle.lists.specs.Tab.{rows}
use Rattle.history.proofs.fetch.Given as goal

abbrev pub invariant-loop-t : goal.invariant-loop-t
invariant-loop-t l =
    (l.t ≤ l.n) × (length l.work ≡ length l.initial.work) × (l.place.len ≡ l.fn.ring.len)
    × (l.place.at ≡ place_back l.fn.ring.len l.fn.ring.at (l.back - l.t))
    × (l.work ≡ rows l.to.first l.to.stride l.t l.ins (λ j t. past l.ins l.fn.ring.len (record { history = l.history; place = l.fn.ring.at }) j (l.back - t - 1)) l.initial.work)

abbrev pub decreases-loop-t : goal.decreases-loop-t
decreases-loop-t l = l.n - l.t
