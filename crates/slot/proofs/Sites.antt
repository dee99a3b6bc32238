-- A FiLM site over a block does to each column what the recurrence does: the convolution's laws, then the modulation's. Assumes nothing.
use Rattle.std.specs.Prelude.{None, Some}
use mathlib.Core.Path.{◌≡◌, refl, sym, ◌∙◌, ap}
use mathlib.Core.Bool.{Bool, true, false, cond}
use mathlib.Core.List.{List}
use Prim.Native.Nat.{ℕ, zero, suc, ◌+◌, ◌*◌, ◌≤◌}
use native.Mathlib.Omega.{arith}
use lib.ListN.{length}
use lib.Ieee.{Float, nan}
use Rattle.lists.specs.Tab.{at, fill}
use Rattle.lists.specs.Region.{Holds}
use Rattle.lists.proofs.Regions.{free_self, free_then, fill_free, holds_free}
use Rattle.ring.specs.Memory.{Memory, push, after}
use Rattle.shape.specs.declared.Shape.{Shape}
use Rattle.shape.specs.Counts.{ring_length}
use Rattle.column.specs.Recurrence.{output, remembered}
use Rattle.film.specs.Modulated.{filmed}
use Rattle.film.specs.Fits.{FilmFits}
use Rattle.film.proofs.Agree.{filmed_holds}
use Rattle.description.specs.Sizes.{histories_of, positions_of}
use Rattle.description.specs.Part.{Part}
use Rattle.description.specs.declared.places.Place.{Place}
use Rattle.slot.specs.View.{weights_in, memory_in}
use Rattle.slot.specs.Steps.{pushed, sited, pushed_all}
use Rattle.slot.specs.Play.{Played}
use Rattle.slot.specs.Site.{SiteThere, result_at, Sited}

-- ---- what a part remembers after some columns
pub pushed_absent : (f : ℕ → ℕ → Float) (s : Memory) (t : ℕ) → pushed_all None f s t ≡ s
unfolding pushed_all pushed
pushed_absent f s zero = refl
pushed_absent f s (suc t) = pushed_absent f s t

pub pushed_there : (sh : Shape) (f : ℕ → ℕ → Float) (s : Memory) (t : ℕ) → pushed_all (Some sh) f s t ≡ remembered sh f s t
unfolding pushed_all pushed after
pushed_there sh f s zero = refl
pushed_there sh f s (suc t) = ap (λ (r : Memory). push sh.ins (ring_length sh) r (f t)) (pushed_there sh f s t)

-- ---- the site is not there
module _ (part : Part) (shifted : Bool) (at : Place) (weights : List Float) (w width m condition from to s rows : ℕ) (work histories : List Float) (positions : List ℕ) where
  pub site_absent : part ≡ None → Sited part shifted at weights w width m condition from to s rows from work histories positions work histories positions
  unfolding result_at sited
  site_absent e = rw e (record {
    there = refl;
    outs = λ v f hv hf. hv;
    memory = λ f hf. sym (pushed_absent f (memory_in None at histories positions) m);
    others = free_self;
    histories_kept = free_self;
    positions_kept = free_self;
  })

-- ---- the site is there
-- w scales, or w scales and w shifts, are what the convolution gives
record Given (shifted : Bool) (outs w m : ℕ) : Type 0 where
  scales : w ≤ outs
  scales_in : w * m ≤ outs * m
  all_in : outs * m ≤ w * 2 * m
  shifts : shifted ≡ true → outs ≡ w + w
  shifts_in : shifted ≡ true → outs * m ≡ w * m + w * m

outs_given : (shifted : Bool) (outs w m : ℕ) → outs ≡ w * cond shifted 2 1 → Given shifted outs w m
outs_given true outs w m e =
    let e2 : outs ≡ w + w = omega (arith, e) in
    let em : outs * m ≡ (w + w) * m = ap (λ (n : ℕ). n * m) e2 in
    record { scales = omega arith; scales_in = omega (arith, em); all_in = omega (arith, em); shifts = λ y. e2; shifts_in = λ y. omega (arith, em) }
outs_given false outs w m e =
    let e1 : outs ≡ w = omega (arith, e) in
    let em : outs * m ≡ w * m = ap (λ (n : ℕ). n * m) e1 in
    record {
      scales = omega arith;
      scales_in = omega (arith, em);
      all_in = omega (arith, em);
      shifts = λ y. cc;
      shifts_in = λ y. cc;
    }

-- some rows of a region
first_rows : {a n m : ℕ} {g : ℕ → ℕ → Float} {work : List Float} (k : ℕ) → k ≤ n → Holds a n m g work → Holds a k m g work
first_rows k le h = record { is = λ c t hc ht. h.is c t (omega arith) ht }

rows-past : {a n m : ℕ} {g : ℕ → ℕ → Float} {work : List Float} (b k : ℕ) → b + k ≤ n → Holds a n m g work → Holds (a + b * m) k m (λ c. g (b + c)) work
rows-past {a} {n} {m} {g} {work} b k le h = record {
  is = λ c t hc ht.
      let e : a + b * m + c * m + t ≡ a + (b + c) * m + t = omega arith in
      ap (at work) e ∙ h.is (b + c) t (omega arith) ht;
}

module _ {sh : Shape} {shifted : Bool} {at : Place} {p w width m nwork nhistories npositions nweights condition to s rows : ℕ}
    (f : SiteThere sh shifted at p w width m nwork nhistories npositions nweights condition to s rows) where
  -- after the convolution work is as long as it was
  pub film_fits : (long : ℕ) → long ≡ nwork → to + w * m ≤ nwork → FilmFits long to s (w * m) shifted
  film_fits long e to_in =
      let g = outs_given shifted sh.outs w m f.outs_are in
      rw e (record {
        to_in = to_in;
        scales_in = omega (arith, g.scales_in, f.play.out_in);
        scales_apart = omega (arith, g.scales_in, f.to_s);
        shifts_in = λ y. omega (arith, g.shifts_in y, f.play.out_in);
        shifts_apart = λ y. omega (arith, g.shifts_in y, f.to_s);
      })

-- between: work past the convolution; from-fits: the columns at `from` lie apart from what the convolution changes
module _ {part : Part} {sh : Shape} {shifted : Bool} {at : Place} {p w width m nhistories npositions nweights condition from s rows : ℕ}
    {weights work histories between histories' : List Float} {positions positions' : List ℕ} (to : ℕ) (work' : List Float) (is : part ≡ Some sh)
    (fits : SiteThere sh shifted at p w width m (length work) nhistories npositions nweights condition from s rows) (to_in : to + w * m ≤ length work)
    (played : Played sh at weights m condition s rows work histories positions between histories' positions')
    (film : work' ≡ fill to (w * m) (filmed shifted s (w * m) between from) between) where
  -- what the convolution is given, and gives
  rows_of : (v : ℕ → ℕ → Float) → Holds condition width m v work → Holds condition sh.ins m v work
  rows_of v h = record { is = λ c t hc ht. h.is c t (omega (arith, hc, fits.ins_are)) ht }

  gives : (ℕ → ℕ → Float) → ℕ → ℕ → Float
  gives f o t = output sh (weights_in (Some sh) at weights) (pushed_all (Some sh) f (memory_in (Some sh) at histories positions) (suc t)) o

  given : (f : ℕ → ℕ → Float) → Holds condition width m (λ c t. f t c) work → Holds s sh.outs m (gives f) between
  unfolding gives
  given f h = record {
    is = λ o t ho ht.
        (played.outs f (rows_of _ h)).is o t ho ht
        ∙ ap (λ (r : Memory). output sh (weights_in (Some sh) at weights) r o) (sym (pushed_there sh f (memory_in (Some sh) at histories positions) (suc t)));
  }

  outs : (v f : ℕ → ℕ → Float) → Holds from w m (λ c t. v t c) work → Holds condition width m (λ c t. f t c) work
      → Holds to w m (λ c t. sited (Some sh) shifted w (weights_in (Some sh) at weights) (pushed_all (Some sh) f (memory_in (Some sh) at histories positions) (suc t)) (v t) c) work'
  unfolding sited gives
  outs v f hv hf =
      let g = outs_given shifted sh.outs w m fits.outs_are in
      let long = played.others.long in
      filmed_holds shifted to from s w m (λ c t. v t c) (gives f) between work' film (omega (arith, to_in, long))
      (holds_free played.others (λ i lo hi. (omega (arith, lo, hi, fits.to_s), omega (arith, lo, hi, fits.to_rows))) hv)
      (first_rows w g.scales (given f hf))
      (λ y. rows-past w w (omega (arith, g.shifts y)) (given f hf))

  pub site_there : Sited part shifted at weights w width m condition from to s rows to work histories positions work' histories' positions'
  unfolding result_at histories_of positions_of
  site_there =
      let g = outs_given shifted sh.outs w m fits.outs_are in
      let e : sh.ins * m ≡ width * m = ap (λ (n : ℕ). n * m) fits.ins_are in
      rw is (record {
        there = refl;
        outs = outs;
        memory = λ f hf. played.memory f (rows_of _ hf) ∙ sym (pushed_there sh f (memory_in (Some sh) at histories positions) m);
        others = free_then played.others (fill_free nan to (w * m) _ between work' film)
            (λ i r. (omega (arith, g.all_in, r.1), omega (arith, e, r.2))) (λ i r. r.0);
        histories_kept = played.histories_kept;
        positions_kept = played.positions_kept;
      })
