-- The header: 15 bytes, and what is refused of them. Document 01, 'The program'; a refusal of the header comes before the count is looked at.
use Rattle.std.specs.Prelude.{◌≡◌, Bool, cond, not, ◌||◌, List, [], ◌∷◌, ℕ, ◌≤◌, eqb, ltb, get_or, length, Err, Ok, Result}
use Rattle.wna.specs.Words.{half_at, word_at}
use Rattle.wna.specs.declared.header.Header.{Header}
use Rattle.refusal.specs.declared.Refusal.{Refusal}
use Rattle.refusal.specs.Number.{number_of}

abbrev pub header_length : ℕ
header_length = 15

-- bytes `WNA`
unfoldable pub other_magic : List ℕ → Bool
other_magic f = not (eqb (get_or f 0 0) 87) || not (eqb (get_or f 1 0) 78) || not (eqb (get_or f 2 0) 65)

abbrev pub version_of : List ℕ → ℕ
version_of f = half_at f 3

abbrev pub block_of : List ℕ → ℕ
block_of f = half_at f 5

-- description count
abbrev pub count_of : List ℕ → ℕ
count_of f = word_at f 7

-- column count
abbrev pub columns_of : List ℕ → ℕ
columns_of f = word_at f 11

-- 10: short, other bytes than `WNA`, a version other than 1, a block size out of 1..1024
unfoldable pub bad_header : List ℕ → Bool
bad_header f = ltb (length f) header_length || other_magic f || not (eqb (version_of f) 1) || eqb (block_of f) 0 || ltb 1024 (block_of f)

-- the most numbers of a description that the program has room for
abbrev pub most_numbers : ℕ
most_numbers = 584

-- header 10; count above 584, 11
unfoldable pub header_refusal : List ℕ → ℕ
header_refusal f = cond (bad_header f) 10 (cond (ltb most_numbers (count_of f)) 11 0)

-- what the reading of a header answers
abbrev pub HeaderAnswer : Type 0
HeaderAnswer = Result Header Refusal

-- its values: block size, description count, column count
unfoldable pub header_values : HeaderAnswer → List ℕ
header_values (Err refusal) = []
header_values (Ok h) = h.block ∷ h.count ∷ h.columns ∷ []

-- what is promised of the answer on a file that begins with the bytes f
pub record HeaderAnswers (f : List ℕ) (r : HeaderAnswer) : Type 0 where
  pub number : number_of r ≡ header_refusal f
  pub values : header_values r ≡ cond (eqb (header_refusal f) 0) (block_of f ∷ count_of f ∷ columns_of f ∷ []) []

-- what the rest of the program may count on
pub record LowHeader (h : Header) : Type 0 where
  pub some : 1 ≤ h.block
  pub largest : h.block ≤ 1024
  pub numbers : h.count ≤ most_numbers
