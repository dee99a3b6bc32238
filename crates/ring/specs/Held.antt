-- The memory that a struct of the code holds.
use Rattle.std.specs.Prelude.{◌≡◌}
use Rattle.ring.specs.declared.Memory.{Memory as Holder}
use Rattle.ring.specs.Memory.{Memory}

abbrev pub held : Holder → Memory
held m = record { history = m.history.now; place = m.ring.at }

-- the struct still holds the same reference, and its ring has as many columns
abbrev pub Keeps : Holder → Holder → Type 0
Keeps old new = (new.history.ghost_name ≡ old.history.ghost_name) × (new.ring.len ≡ old.ring.len)
