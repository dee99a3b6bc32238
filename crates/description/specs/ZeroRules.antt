-- What has to be 0. Document 01, 'Description': "A slope is 0 unless its code is 3. Mode None has 0 at places 8 and 9. An absent part has 0 in its other
-- places, and an absent site has shift bit 0. Nothing else is missing by zero."
use Rattle.std.specs.Prelude.{List, Bool, not, ◌&&◌, ◌||◌, ℕ, ◌+◌, ◌/◌, ◌%◌, ◌^◌, eqb, get_or}
use Rattle.description.specs.Tests.{any_below}

-- shift bits, bit i for site i
abbrev pub bit : ℕ → ℕ → Bool
bit bits i = eqb (bits / 2 ^ i % 2) 1

abbrev pub some : ℕ → Bool
some n = not (eqb n 0)

abbrev pub none : ℕ → Bool
none n = eqb n 0

module _ (d : List ℕ) (at : ℕ) where
  -- number p of the layer whose numbers start at this place
  abbrev here : ℕ → ℕ
  here p = get_or d (at + p) 0

  unfoldable pub breaks_activations : Bool
  breaks_activations =
      not (eqb (here 6) 3) && some (here 7) || not (eqb (here 8) 3) && some (here 9) || none (here 5) && (some (here 8) || some (here 9))

  -- layer1x1 and head1x1; the groups of a head1x1 that is there are 1..32
  unfoldable pub breaks_parts : Bool
  breaks_parts = none (here 10) && some (here 11) || none (here 12) && (some (here 13) || some (here 14)) || some (here 12) && none (here 13)

  unfoldable pub breaks_sites : Bool
  breaks_sites = any_below 8 (λ i. none (here (15 + i)) && bit (here 23) i)

  unfoldable pub breaks_zero_rule : Bool
  breaks_zero_rule = breaks_activations || breaks_parts || breaks_sites
