-- Case A, from a reset. Document 01, 'The program' (Case A).
use Rattle.std.specs.Prelude.{List, [], ◌∷◌, ◌++◌, ℕ, replicate, Float}
use Rattle.std.specs.Float.{binary32}
use Rattle.std.specs.Float.Ieee.{of_bits}
use Rattle.description.specs.Parts.{parts_of}
use Rattle.description.specs.Sizes.{histories_of, total}
use Rattle.reset.specs.Resets.{silence_of, starts_of}
use Rattle.array.specs.Lent.{Lent}

-- a value by its pattern
abbrev pub float : ℕ → Float
float bits = of_bits binary32 bits

-- array 1,1,1,1,1,1,0,1; layer 1,2,2,1,1,0,1,0,0,0,1,1, then twelve 0
abbrev pub description_a : List ℕ
description_a =
    (1 ∷ 1 ∷ 1 ∷ 1 ∷ 1 ∷ 1 ∷ 0 ∷ 1 ∷ []) ++ (1 ∷ 2 ∷ 2 ∷ 1 ∷ 1 ∷ 0 ∷ 1 ∷ 0 ∷ 0 ∷ 0 ∷ 1 ∷ 1 ∷ []) ++ replicate 12 0

-- weights 2; 1, 0.5; -1; 1; 2; 0.5; 3. Input 1,2,3,-4; condition 0,1,0,0; incoming head 1,0,0,0. What the outputs and scratch held is of no account
unfoldable pub case_a : Lent
case_a = record {
  description = description_a;
  weights = float 0x4000_0000 ∷ float 0x3f80_0000 ∷ float 0x3f00_0000 ∷ float 0xbf80_0000 ∷ float 0x3f80_0000 ∷ float 0x4000_0000 ∷ float 0x3f00_0000 ∷ float 0x4040_0000 ∷ [];
  histories = silence_of (total histories_of (parts_of description_a));
  positions = starts_of (parts_of description_a);
  input = float 0x3f80_0000 ∷ float 0x4000_0000 ∷ float 0x4040_0000 ∷ float 0xc080_0000 ∷ [];
  condition = float 0 ∷ float 0x3f80_0000 ∷ float 0 ∷ float 0 ∷ [];
  head_in = float 0x3f80_0000 ∷ float 0 ∷ float 0 ∷ float 0 ∷ [];
  head_out = replicate 4 (float 0);
  array_out = replicate 4 (float 0);
  scratch = replicate 64 (float 0);
}
