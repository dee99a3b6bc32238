-- What is promised of text that is written into a buffer, and what is asked of the block that is printed.
use Rattle.std.specs.Prelude.{◌≡◌, List, ℕ, ◌+◌, ◌*◌, ◌≤◌, length, Float}
use Rattle.std.proofs.lemmas.List.Edits.{sets}
use Rattle.lines.specs.declared.Page.{Page}
use Rattle.lines.specs.declared.Columns.{Columns}
use Rattle.lines.specs.Text.{outputs_of}

-- the text from place p on, and nothing else; the answer is the place after it
pub record Printed (out : List ℕ) (p : ℕ) (text : List ℕ) (r : ℕ) (out' : List ℕ) : Type 0 where
  pub past : r ≡ p + length text
  pub within : r ≤ length out
  pub is : out' ≡ sets out p text

-- the page has room for so many bytes more
abbrev pub Blank : Page → ℕ → Type 0
Blank page n = page.at + n ≤ length page.bytes.now

-- the page with the text on it, and the place after that
abbrev pub Wrote : Page → List ℕ → Page → Type 0
Wrote page text page' = Printed page.bytes.now page.at text page'.at page'.bytes.now

-- planar blocks of n columns: the numbers of rows, and the buffers that hold them
pub record Room (head heads array arrays n : ℕ) : Type 0 where
  pub held : heads * n ≤ head
  pub also : arrays * n ≤ array

-- the same of columns as the code passes them, and what column t of them prints
abbrev pub Held : Columns → Type 0
Held columns = Room (length columns.head.now) columns.heads (length columns.array.now) columns.arrays columns.count

abbrev pub outputs : Columns → ℕ → List Float
outputs columns = outputs_of columns.count columns.heads columns.head.now columns.arrays columns.array.now
