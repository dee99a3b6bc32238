-- The sizes as text: the five numbers with a space between.
use Rattle.std.specs.Prelude.{List, ℕ, ◌++◌, codes, decimal}
use Rattle.description.specs.declared.answers.Sizes.{Sizes}

abbrev pub spaced : ℕ → List ℕ → List ℕ
spaced n rest = decimal n ++ (codes " " ++ rest)

abbrev pub sizes_text : Sizes → List ℕ
sizes_text s = spaced s.weights (spaced s.histories (spaced s.positions (spaced s.widest (decimal s.depth))))
