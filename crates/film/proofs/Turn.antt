-- One turn of the loop: what is read was not written yet. Assumes nothing.
use mathlib.Core.Path.{◌≡◌, refl}
use mathlib.Core.Bool.{Bool, true, false}
use mathlib.Core.List.{List}
use mathlib.Core.Logic.{⊎_elim}
use Prim.Native.Nat.{ℕ, ◌+◌, ◌<◌}
use native.Mathlib.Omega.{arith}
use lib.Ieee.{Float, nan}
use Rattle.lists.specs.Tab.{at, fill}
use Rattle.lists.specs.Region.{Apart}
use Rattle.lists.proofs.Fill.{fill_apart}
use Rattle.film.specs.declared.Modulation.{Modulation}
use Rattle.film.specs.Modulated.{modulated, modulation_of, filmed}
use Rattle.film.specs.Fits.{FilmFits, ReadFirst}

-- a shift is looked at only where there is one
pub modulation_ext : (shifted : Bool) (a b c d : Float) → a ≡ b → (shifted ≡ true → c ≡ d) → modulation_of shifted a c ≡ modulation_of shifted b d
unfolding modulation_of
modulation_ext true a b c d e h = rw (e, h refl)
modulation_ext false a b c d e h = rw e

pub read_first : {to from n i : ℕ} → ReadFirst to from n → i < n → Apart to i (from + i) 1
read_first h lt = ⊎_elim (λ l. omega (arith, l, lt)) (λ l. omega (arith, l, lt)) h

pub film_turn : {shifted : Bool} {nwork to s n : ℕ} (from i : ℕ) (old work : List Float) (d : Modulation) (value : Float) → FilmFits nwork to s n shifted → i < n
    → work ≡ fill to i (filmed shifted s n old from) old → Apart to i (from + i) 1
    → d ≡ modulation_of shifted (at work (s + i)) (at work (s + i + n)) → value ≡ modulated d (at work (from + i)) → value ≡ filmed shifted s n old from i
unfolding filmed
film_turn {shifted} {nwork} {to} {s} {n} from i old work d value f lt e apart hd hv =
    let scale : at work (s + i) ≡ at old (s + i) = fill_apart nan to i (s + i) _ work old e (omega (arith, f.scales_apart, lt)) in
    let shift : shifted ≡ true → at work (s + i + n) ≡ at old (s + i + n) =
    λ y. fill_apart nan to i (s + i + n) _ work old e (omega (arith, f.shifts_apart y, lt)) in
    let input : at work (from + i) ≡ at old (from + i) = fill_apart nan to i (from + i) _ work old e apart in
    rw (hv, hd, modulation_ext shifted _ _ _ _ scale shift, input)
