-- What a call answers is what its caller leaves. Assumes nothing.
use mathlib.Core.Path.{◌≡◌}
use mathlib.Core.List.{List}
use Prim.Native.Nat.{ℕ}
use lib.Ieee.{Float}
use Rattle.array.specs.Lent.{Lent, Left}
use Rattle.array.specs.Calls.{Answers}
use Rattle.calls.specs.Fit.{left_of}

pub handed : {b : Lent} {n q : ℕ} {e : Left} {answer : ℕ} {histories : List Float} {positions : List ℕ} {headOut arrayOut scratch : List Float} → Answers b n q e
    → answer ≡ e.answer → histories ≡ e.histories → positions ≡ e.positions → headOut ≡ e.head_out → arrayOut ≡ e.array_out → scratch ≡ e.scratch
    → Answers b n q (left_of answer histories positions headOut arrayOut scratch)
handed a is h p o r w = rw (is, h, p, o, r, w) a
