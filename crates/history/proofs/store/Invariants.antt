use mathlib.Core.Path.{◌≡◌}
use Prim.Native.Nat.{◌+◌, ◌*◌, ◌-◌, ◌≤◌}
use Rattle.ring.specs.Memory.{after}
use Rattle.lists.specs.Tab.{at}
use Rattle.history.proofs.store.Given as goal

abbrev pub invariant-loop-column : goal.invariant-loop-column
invariant-loop-column l =
    (l.column ≤ l.n) × (l.memory.history.ghost_name ≡ l.initial.memory.history.ghost_name) × (l.ring.len ≡ l.initial.ring.len)
    × (record { history = l.memory.history.now; place = l.ring.at } ≡ after l.ins l.initial.ring.len (λ t j. at l.work (l.block.first + j * l.stride + t)) (record { history = l.initial.memory.history.now; place = l.initial.ring.at }) l.column)

abbrev pub decreases-loop-column : goal.decreases-loop-column
decreases-loop-column l = l.n - l.column
