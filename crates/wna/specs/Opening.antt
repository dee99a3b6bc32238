-- What comes before the first column, and the order of its refusals. Document 01, 'The program': "header 10; count above 584, 11; short description
-- 10; 1-5; weights or histories above 16,384 or W x block above 1024, 11; short weights 10".
use Rattle.std.specs.Prelude.{◌≡◌, Bool, cond, not, ◌||◌, List, [], ℕ, ◌+◌, ◌*◌, ◌≤◌, eqb, ltb, Float, drop, length}
use Rattle.description.specs.Answers.{listed, values_of}
use Rattle.refusal.specs.Number.{number_of}
use Rattle.description.specs.Refusals.{refusal_of}
use Rattle.description.specs.Sizes.{sizes_of}
use Rattle.description.specs.Checked.{Checked}
use Rattle.description.specs.declared.answers.Sizes.{Sizes}
use Rattle.wna.specs.Header.{bad_header, block_of, count_of, header_length, most_numbers}
use Rattle.wna.specs.Words.{floats_of, words_of}

-- the bytes end before n numbers of 32 bits
unfoldable pub short_for : ℕ → List ℕ → Bool
short_for n f = ltb (length f) (4 * n)

-- weights or histories above 16,384 or W x block above 1024; the block is the header's, however few columns there are
unfoldable pub no_room : Sizes → ℕ → Bool
no_room s block = ltb 16384 s.weights || ltb 16384 s.histories || ltb 1024 (s.widest * block)

-- a file's description, and where its weights start
unfoldable pub description_of : List ℕ → List ℕ
description_of f = words_of (count_of f) (drop header_length f)

unfoldable pub weights_at : List ℕ → ℕ
weights_at f = header_length + 4 * count_of f

-- the file's refusal before its first column, 0 where there is none: the first test that holds, in the paper's order
unfoldable pub opening_refusal : List ℕ → ℕ
opening_refusal f =
    let d = description_of f in
    cond (bad_header f) 10
    (cond (ltb most_numbers (count_of f)) 11
    (cond (short_for (count_of f) (drop header_length f)) 10
    (cond (not (eqb (refusal_of d) 0)) (refusal_of d)
    (cond (no_room (sizes_of d) (block_of f)) 11
    (cond (short_for (sizes_of d).weights (drop (weights_at f) f)) 10 0)))))

-- the refusal of n numbers of description that follow a header, from the bytes f after it
unfoldable pub description_refusal : ℕ → List ℕ → ℕ → ℕ
description_refusal n f block =
    let d = words_of n f in
    cond (short_for n f) 10 (cond (not (eqb (refusal_of d) 0)) (refusal_of d) (cond (no_room (sizes_of d) block) 11 0))

-- what is promised of taking them in: the answer, and the numbers; too short, they are what they were
pub record Described (numbers f : List ℕ) (block : ℕ) (r : Checked) (numbers' : List ℕ) : Type 0 where
  pub number : number_of r ≡ description_refusal (length numbers) f block
  pub values : values_of r ≡ cond (eqb (number_of r) 0) (listed (sizes_of (words_of (length numbers) f))) []
  pub unpacked : numbers' ≡ cond (short_for (length numbers) f) numbers (words_of (length numbers) f)

-- what the rest of the program may count on where nothing is refused: the sizes are the description's, and there is room
pub record Opened (d : List ℕ) (s : Sizes) (block : ℕ) : Type 0 where
  pub sound : refusal_of d ≡ 0
  pub sizes : s ≡ sizes_of d
  pub weights : s.weights ≤ 16384
  pub histories : s.histories ≤ 16384
  pub planar : s.widest * block ≤ 1024

-- and of the weights: the answer is 10 or 0
pub record Weighed (weights : List Float) (f : List ℕ) (r : ℕ) (weights' : List Float) : Type 0 where
  pub number : r ≡ cond (short_for (length weights) f) 10 0
  pub unpacked : weights' ≡ cond (short_for (length weights) f) weights (floats_of (length weights) f)
