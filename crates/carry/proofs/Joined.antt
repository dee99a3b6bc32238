-- Rows without gaps lie end to end: w rows of m are one row of w * m. Assumes nothing.
use mathlib.Core.Path.{◌≡◌, ◌∙◌}
use mathlib.Core.List.{List}
use Prim.Native.Nat.{ℕ, zero, suc, ◌+◌, ◌*◌}
use native.Mathlib.Nat.{zero-mul, suc-mul}
use native.Mathlib.Omega.{arith}
use lib.Ieee.{Float}
use Rattle.lists.specs.Tab.{at, fill, rows}
use Rattle.lists.proofs.Fill.{fill_none, fill_join}
use Rattle.lists.proofs.Rows.{rows_ext}

fill-rows : {A : Type 0} (a m w : ℕ) (f : ℕ → A) (old : List A) → fill a (w * m) f old ≡ rows a m m w (λ c t. f (c * m + t)) old
unfolding rows
fill-rows a m zero f old = rw zero-mul (fill_none a f old)
fill-rows a m (suc w) f old = rw (suc-mul, ← fill_join a (w * m) m f old, fill-rows a m w f old)

-- one row carried is all rows carried, where neither buffer has columns besides
pub joined : (to s m from n w : ℕ) (src old out : List Float) → m ≡ s → m ≡ n → out ≡ fill to (w * m) (λ t. at src (from + t)) old
    → out ≡ rows to s m w (λ c t. at src (from + c * n + t)) old
joined to s m from n w src old out hs hn e =
    rw (← hs, ← hn)
    (e ∙ fill-rows to m w (λ t. at src (from + t)) old
    ∙ rows_ext to m m w _ _ old (λ c t _ _. let i : from + (c * m + t) ≡ from + c * m + t = omega arith in rw i))
