-- A plan's rule. Document 01, 'Plans': pairs (stage, count), two numbers a turn.
use Rattle.std.specs.Prelude.{List, [], ◌∷◌, Bool, true, false, ◌&&◌, ℕ, zero, suc, ◌+◌, eqb, leb, ltb, get_or, set, replicate}

-- all numbers of a list are n
unfoldable pub all_are : ℕ → List ℕ → Bool
all_are n [] = true
all_are n (r ∷ rs) = eqb r n && all_are n rs

-- stage 0 may reach n, any other no further than the stage before it has reached
unfoldable pub limit : ℕ → List ℕ → ℕ → ℕ
limit n reached zero = n
limit n reached (suc k) = get_or reached k 0

-- a turn is allowed: there is such a stage, count is at least 1, and the stage gets no further than it may
unfoldable pub allows : ℕ → ℕ → List ℕ → ℕ → ℕ → Bool
unfolding limit
allows stages n reached stage count =
    ltb stage stages && leb 1 count && leb (get_or reached stage 0 + count) (limit n reached stage)

-- how far the stages have reached after the turn
unfoldable pub taken : List ℕ → ℕ → ℕ → List ℕ
taken reached stage count = set reached stage (get_or reached stage 0 + count)

-- the rest of a plan keeps the rule, from where the stages have reached; at the end all stages stand at n, and an odd length is refused
unfoldable pub keeps_from : ℕ → ℕ → List ℕ → List ℕ → Bool
unfolding all_are allows taken
keeps_from stages n reached [] = all_are n reached
keeps_from stages n reached (stage ∷ []) = false
keeps_from stages n reached (stage ∷ count ∷ plan) = allows stages n reached stage count && keeps_from stages n (taken reached stage count) plan

-- a plan for n columns keeps the rule
unfoldable pub keeps_rule : ℕ → ℕ → List ℕ → Bool
unfolding keeps_from
keeps_rule stages n plan = keeps_from stages n (replicate stages 0) plan
