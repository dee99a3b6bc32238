-- The numbers of a description, by place. Document 01, 'Description'.
use Rattle.std.specs.Prelude.{List, ℕ, ◌+◌, ◌*◌, get_or}

-- eight for the array
abbrev pub head_length : ℕ
head_length = 8

-- then 24 per layer
abbrev pub record_length : ℕ
record_length = 24

-- number p of the array
abbrev pub array_number : List ℕ → ℕ → ℕ
array_number d p = get_or d p 0

-- layer count L
abbrev pub layer_count : List ℕ → ℕ
layer_count d = array_number d 7

-- where layer l's numbers start
abbrev pub record_at : ℕ → ℕ
record_at l = head_length + record_length * l

-- number p of layer l
abbrev pub number : List ℕ → ℕ → ℕ → ℕ
number d l p = get_or d (record_at l + p) 0
