-- The digits passed are written.
use mathlib.Core.Path.{◌≡◌}
use Prim.Native.Nat.{◌^◌, ◌*◌, ◌-◌, ◌/◌, ◌%◌, ◌≤◌}
use Rattle.lists.specs.Tab.{tab}
use Rattle.lines.specs.Text.{hex_digit}
use Rattle.lines.specs.Lines.{Blank, Wrote}
use Rattle.lines.proofs.Page.put_hex.Given as goal

abbrev pub invariant-loop-i : goal.invariant-loop-i
invariant-loop-i l =
    (l.i ≤ 8) × (l.self.bytes.ghost_name ≡ l.initial.self.bytes.ghost_name) × Blank l.initial.self 8 × Wrote l.initial.self (tab l.i (λ i. hex_digit (l.bits / 2 ^ (28 - 4 * i) % 16))) l.self
