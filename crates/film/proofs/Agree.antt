-- Both ways agree: out of place is the same as a copy, then in place. And what a planar region holds afterwards. Assumes nothing.
use mathlib.Core.Path.{◌≡◌, sym, ◌∙◌, ap}
use mathlib.Core.Bool.{Bool, true}
use mathlib.Core.List.{List}
use Prim.Native.Nat.{ℕ, ◌+◌, ◌*◌, ◌≤◌}
use native.Mathlib.Omega.{arith}
use lib.ListN.{length}
use lib.Ieee.{Float, nan}
use Rattle.lists.specs.Tab.{at, fill}
use Rattle.lists.specs.Region.{Holds}
use Rattle.lists.proofs.Fill.{fill_ext, fill_over, at-fill_in, at-fill-out}
use Rattle.lists.proofs.Regions.{fill_holds, cell_is}
use Rattle.film.specs.Modulated.{modulated, modulation_of, filmed}
use Rattle.film.specs.Fits.{FilmFits}
use Rattle.film.proofs.Turn.{modulation_ext}

-- moved: what `process` leaves; copied: the input copied to its place; here: what `process` then leaves in place
pub agree : (shifted : Bool) (to from s n : ℕ) (work moved copied here : List Float) → FilmFits (length work) to s n shifted
    → moved ≡ fill to n (filmed shifted s n work from) work → copied ≡ fill to n (λ i. at work (from + i)) work
    → here ≡ fill to n (filmed shifted s n copied to) copied → moved ≡ here
unfolding filmed
agree shifted to from s n work moved copied here f m c h =
    let same : here ≡ fill to n (filmed shifted s n work from) copied =
    h ∙ fill_ext to n _ _ copied (λ i lt.
    let scale : at copied (s + i) ≡ at work (s + i) = rw c (at-fill-out nan to n _ work (s + i) (omega (arith, f.scales_apart, lt))) in
    let shift : shifted ≡ true → at copied (s + i + n) ≡ at work (s + i + n) =
    λ y. rw c (at-fill-out nan to n _ work (s + i + n) (omega (arith, f.shifts_apart y, lt))) in
    let input : at copied (to + i) ≡ at work (from + i) = rw c (at-fill_in nan to n _ work i lt f.to_in) in
    rw (modulation_ext shifted _ _ _ _ scale shift, input)) in
    m ∙ sym (same ∙ rw c (fill_over nan to n _ _ work f.to_in))

-- w rows of m, modulated by the rows that a convolved condition g gives: row c scales, row w + c shifts
pub filmed_holds : (shifted : Bool) (to from s w m : ℕ) (v g : ℕ → ℕ → Float) (work new : List Float) → new ≡ fill to (w * m) (filmed shifted s (w * m) work from) work
    → to + w * m ≤ length work → Holds from w m v work → Holds s w m g work → (shifted ≡ true → Holds (s + w * m) w m (λ c. g (w + c)) work)
    → Holds to w m (λ c t. modulated (modulation_of shifted (g c t) (g (w + c) t)) (v c t)) new
unfolding filmed
filmed_holds shifted to from s w m v g work new e b hv hs hh =
    fill_holds to w m _ _ work new e b (λ c t hc ht.
    let input : at work (from + (c * m + t)) ≡ v c t = cell_is from m work c t ∙ hv.is c t hc ht in
    let scale : at work (s + (c * m + t)) ≡ g c t = cell_is s m work c t ∙ hs.is c t hc ht in
    let shift : shifted ≡ true → at work (s + (c * m + t) + w * m) ≡ g (w + c) t =
    λ y. ap (at work) (omega arith) ∙ (hh y).is c t hc ht in
    rw (input, modulation_ext shifted _ _ _ _ scale shift))
