-- What a layer's proof uses: a part follows any run of memories that pushes the columns, and leaves the memories of other parts. Assumes nothing.
use Rattle.std.specs.Prelude.{None, Some}
use mathlib.Core.Path.{◌≡◌, refl, sym, ◌∙◌, ap}
use mathlib.Core.Bool.{Bool}
use mathlib.Core.List.{List}
use Prim.Native.Nat.{ℕ, zero, suc, ◌+◌, ◌≤◌, ◌<◌}
use native.Mathlib.Omega.{arith}
use lib.ListN.{length, get_or}
use lib.Ieee.{Float, nan}
use Rattle.lists.specs.Region.{cell, Holds, Free}
use Rattle.lists.proofs.Parts.{length_part, part_free}
use Rattle.ring.specs.Memory.{Memory, Sound}
use Rattle.ring.proofs.Window.{after_sound}
use Rattle.shape.specs.declared.Shape.{Shape}
use Rattle.shape.specs.Counts.{ring_length, history_count}
use Rattle.column.specs.Recurrence.{output, remembered}
use Rattle.description.specs.Sizes.{histories_of, positions_of}
use Rattle.description.specs.Part.{Part}
use Rattle.description.specs.declared.places.Place.{Place}
use Rattle.slot.specs.View.{weights_in, memory_in}
use Rattle.slot.specs.Steps.{pushed, convolved, sited, pushed_all}
use Rattle.slot.specs.Play.{Played}
use Rattle.slot.specs.Site.{Sited}
use Rattle.slot.proofs.Sites.{pushed_there}

-- ---- any run of memories that pushes f is the part's own
pub pushed_run : (p : Part) (R : ℕ → Memory) (f : ℕ → ℕ → Float) → ((t : ℕ) → R (suc t) ≡ pushed p (R t) (f t)) → (t : ℕ) → R t ≡ pushed_all p f (R 0) t
unfolding pushed_all
pushed_run p R f step zero = refl
pushed_run p R f step (suc t) = step t ∙ ap (λ (s : Memory). pushed p s (f t)) (pushed_run p R f step t)

module _ (p : Part) {s : Memory} (R : ℕ → Memory) (f : ℕ → ℕ → Float) (start : R 0 ≡ s) (step : (t : ℕ) → R (suc t) ≡ pushed p (R t) (f t)) where
  -- from where it starts
  pub run_is : (t : ℕ) → pushed_all p f s t ≡ R t
  run_is t = sym (pushed_run p R f step t ∙ ap (λ (r : Memory). pushed_all p f r t) start)

-- ---- a convolution
module _ {sh : Shape} {at : Place} {weights : List Float} {m x out rows : ℕ} {work histories : List Float} {positions : List ℕ} {work' histories' : List Float}
    {positions' : List ℕ} (played : Played sh at weights m x out rows work histories positions work' histories' positions') where
  module _ {f : ℕ → ℕ → Float} (held : Holds x sh.ins m (λ c t. f t c) work) (R : ℕ → Memory)
      (start : R 0 ≡ memory_in (Some sh) at histories positions) (step : (t : ℕ) → R (suc t) ≡ pushed (Some sh) (R t) (f t)) where
    played_is : (t : ℕ) → remembered sh f (memory_in (Some sh) at histories positions) t ≡ R t
    played_is t = sym (pushed_there sh f (memory_in (Some sh) at histories positions) t) ∙ run_is (Some sh) R f start step t

    pub play_trace : Holds out sh.outs m (λ o t. convolved (Some sh) (weights_in (Some sh) at weights) (R (suc t)) o) work'
        × (memory_in (Some sh) at histories' positions' ≡ R m)
    unfolding convolved
    play_trace = (
      record {
        is = λ o t ho ht.
            (played.outs f held).is o t ho ht ∙ ap (λ (r : Memory). output sh (weights_in (Some sh) at weights) r o) (played_is (suc t));
      },
      played.memory f held ∙ played_is m,
    )

-- ---- a site
module _ {p : Part} {shifted : Bool} {at : Place} {weights : List Float} {w width m condition from to s rows result : ℕ} {work histories : List Float} {positions : List ℕ}
    {work' histories' : List Float} {positions' : List ℕ}
    (sited-is : Sited p shifted at weights w width m condition from to s rows result work histories positions work' histories' positions') where
  module _ {v f : ℕ → ℕ → Float} (held : Holds from w m (λ c t. v t c) work) (held_condition : Holds condition width m (λ c t. f t c) work) (R : ℕ → Memory)
      (start : R 0 ≡ memory_in p at histories positions) (step : (t : ℕ) → R (suc t) ≡ pushed p (R t) (f t)) where
    pub site_trace : Holds result w m (λ c t. sited p shifted w (weights_in p at weights) (R (suc t)) (v t) c) work' × (memory_in p at histories' positions' ≡ R m)
    site_trace = (
      record {
        is = λ c t hc ht.
            (sited-is.outs v f held held_condition).is c t hc ht
            ∙ ap (λ (r : Memory). sited p shifted w (weights_in p at weights) r (v t) c) (run_is p R f start step (suc t));
      },
      sited-is.memory f held_condition ∙ run_is p R f start step m,
    )

-- ---- what a part remembers is kept where its numbers are
pub memory_kept : {P Q : ℕ → Type 0} {histories histories' : List Float} {positions positions' : List ℕ}
    → Free nan P histories histories' → Free 0 Q positions positions' → (p : Part) (at : Place) → at.histories + histories_of p ≤ length histories
    → ((i : ℕ) → at.histories ≤ i → i < at.histories + histories_of p → P i)
    → ((i : ℕ) → at.positions ≤ i → i < at.positions + positions_of p → Q i)
    → memory_in p at histories' positions' ≡ memory_in p at histories positions
unfolding memory_in histories_of positions_of
memory_kept kept kept_places None at b h k = refl
memory_kept kept kept_places (Some sh) at b h k =
    rw (part_free nan at.histories (history_count sh) kept h b, kept_places.is at.positions (k at.positions (omega arith) (omega arith)))

-- ---- a position stays below its ring's length
memory_sound : (sh : Shape) (at : Place) (histories : List Float) (positions : List ℕ) → at.histories + history_count sh ≤ length histories
    → get_or positions at.positions 0 < ring_length sh → Sound sh.ins (ring_length sh) (memory_in (Some sh) at histories positions)
unfolding memory_in history_count
memory_sound sh at histories positions h p = record { place_in = p; history_is = length_part at.histories (history_count sh) histories h }

place_below : (sh : Shape) (at : Place) (f : ℕ → ℕ → Float) (m : ℕ) (histories histories' : List Float) (positions positions' : List ℕ)
    → memory_in (Some sh) at histories' positions' ≡ remembered sh f (memory_in (Some sh) at histories positions) m → at.histories + history_count sh ≤ length histories
    → get_or positions at.positions 0 < ring_length sh → get_or positions' at.positions 0 < ring_length sh
unfolding memory_in
place_below sh at f m histories histories' positions positions' e h p =
    let q : get_or positions' at.positions 0 ≡ (remembered sh f (memory_in (Some sh) at histories positions) m).place = ap (λ (r : Memory). r.place) e in
    rw q (after_sound (memory_sound sh at histories positions h p) f m).place_in

-- past a convolution
pub place_stays : {sh : Shape} {at : Place} {weights : List Float} {m x out rows : ℕ} {work histories : List Float} {positions : List ℕ} {work' histories' : List Float} {positions' : List ℕ}
    → Played sh at weights m x out rows work histories positions work' histories' positions' → at.histories + history_count sh ≤ length histories
    → get_or positions at.positions 0 < ring_length sh → get_or positions' at.positions 0 < ring_length sh
place_stays {sh} {at} {weights} {m} {x} {out} {rows} {work} {histories} {positions} {work'} {histories'} {positions'} played h p =
    let f : ℕ → ℕ → Float = λ t c. cell m x work c t in
    place_below sh at f m histories histories' positions positions' (played.memory f (record { is = λ c t hc ht. refl })) h p

-- past a site
pub site_place_stays : {p : Part} {shifted : Bool} {at : Place} {weights : List Float} {w width m condition from to s rows result : ℕ} {work histories : List Float} {positions : List ℕ}
    {work' histories' : List Float} {positions' : List ℕ}
    → Sited p shifted at weights w width m condition from to s rows result work histories positions work' histories' positions'
    → (sh : Shape) → p ≡ Some sh → at.histories + history_count sh ≤ length histories
    → get_or positions at.positions 0 < ring_length sh → get_or positions' at.positions 0 < ring_length sh
site_place_stays {p} {shifted} {at} {weights} {w} {width} {m} {condition} {from} {to} {s} {rows} {result} {work} {histories} {positions} {work'} {histories'} {positions'} site sh is h b =
    let f : ℕ → ℕ → Float = λ t c. cell m condition work c t in
    let e : memory_in (Some sh) at histories' positions' ≡ pushed_all (Some sh) f (memory_in (Some sh) at histories positions) m =
    rw is at (site.memory f (record { is = λ c t hc ht. refl })) in
    place_below sh at f m histories histories' positions positions' (e ∙ pushed_there sh f (memory_in (Some sh) at histories positions) m) h b
