-- The places passed hold what the rule gave.
use Rattle.std.proofs.Common.{◌≡◌, ◌<◌, ℕ, get_or, length}
use Rattle.wna.proofs.words.fill_by.Given as goal

abbrev pub invariant-loop-i : goal.invariant-loop-i
invariant-loop-i g l = (l.i-end ≡ length l.fn.out) × (length l.out ≡ length l.fn.out) × ((d : _) (k : ℕ) → k < l.i → goal.F-post g l.rule k (get_or l.out k d))
