-- Memories that have the sizes of their parts: joined end to end and read again, they are what they were. Assumes nothing.
use Rattle.std.specs.Prelude.{None, Some}
use mathlib.Core.Path.{◌≡◌, refl, sym, ◌∙◌, ap}
use mathlib.Core.List.{List, [], ◌∷◌, ◌++◌}
use mathlib.Core.Logic.{⊎_elim}
use Prim.Native.Nat.{ℕ, zero, suc, ◌+◌, ◌≤◌, ◌<◌}
use native.Mathlib.Nat.{zero-add, not-suc-le-zero, le_of_suc-le-suc}
use native.Mathlib.Omega.{arith}
use lib.ListN.{length, get_or, take, length-append, get_or-append}
use lib.Seq.{take_at, drop-append-add, get_or-append-add}
use Rattle.lists.specs.Part.{part}
use Rattle.lists.proofs.Nums.{le_or_lt}
use Rattle.ring.specs.Memory.{Memory}
use Rattle.shape.specs.Counts.{history_count}
use Rattle.shape.specs.declared.Shape.{Shape}
use Rattle.description.specs.Parts.{each_layer}
use Rattle.description.specs.Sizes.{histories_of, positions_of, total, place_of}
use Rattle.description.specs.Part.{Part}
use Rattle.slot.specs.View.{memory_in}
use Rattle.array.specs.Memories.{histories_joined, positions_joined}

-- no memory, which stands past the end of a list of them
abbrev pub none : Memory
none = record { history = []; place = 0 }

-- a memory of a part's size
unfoldable pub Fits : Part → Memory → Type 0
Fits None s = s ≡ none
Fits (Some sh) s = length s.history ≡ history_count sh

-- memories of parts, one by one
unfoldable pub AllFit : List Part → List Memory → Type 0
AllFit [] [] = Unit {0}
AllFit [] (s ∷ ss) = ⊥
AllFit (p ∷ ps) [] = ⊥
AllFit (p ∷ ps) (s ∷ ss) = Fits p s × AllFit ps ss

pub fit_length : (ps : List Part) (ss : List Memory) → AllFit ps ss → length ss ≡ length ps
unfolding AllFit
fit_length [] [] h = refl
fit_length [] (s ∷ ss) h = absurd h
fit_length (p ∷ ps) [] h = absurd h
fit_length (p ∷ ps) (s ∷ ss) h = ap suc (fit_length ps ss h.1)

pub fit_at : (ps : List Part) (ss : List Memory) → AllFit ps ss → (i : ℕ) → i < length ps → Fits (get_or ps i None) (get_or ss i none)
unfolding AllFit
fit_at [] [] h i l = absurd (not-suc-le-zero l)
fit_at [] (s ∷ ss) h i l = absurd h
fit_at (p ∷ ps) [] h i l = absurd h
fit_at (p ∷ ps) (s ∷ ss) h zero l = h.0
fit_at (p ∷ ps) (s ∷ ss) h (suc i) l = fit_at ps ss h.1 i (le_of_suc-le-suc l)

pub fit_by : (ps : List Part) (ss : List Memory) → length ss ≡ length ps → ((i : ℕ) → i < length ps → Fits (get_or ps i None) (get_or ss i none)) → AllFit ps ss
unfolding AllFit
fit_by [] [] e h = tt
fit_by [] (s ∷ ss) e h = omega arith
fit_by (p ∷ ps) [] e h = omega arith
fit_by (p ∷ ps) (s ∷ ss) e h = (h 0 (omega arith), fit_by ps ss (omega arith) (λ i l. h (suc i) (omega arith)))

pub fit_join : (ps qs : List Part) (ss ts : List Memory) → AllFit ps ss → AllFit qs ts → AllFit (ps ++ qs) (ss ++ ts)
unfolding AllFit
fit_join [] qs [] ts h g = g
fit_join [] qs (s ∷ ss) ts h g = absurd h
fit_join (p ∷ ps) qs [] ts h g = absurd h
fit_join (p ∷ ps) qs (s ∷ ss) ts h g = (h.0, fit_join ps qs ss ts h.1 g)

pub fit_each : (f : ℕ → List Part) (g : ℕ → List Memory) (n : ℕ) → ((k : ℕ) → k < n → AllFit (f k) (g k)) → AllFit (each_layer f n) (each_layer g n)
unfolding each_layer AllFit
fit_each f g zero h = tt
fit_each f g (suc n) h = fit_join (each_layer f n) (f n) (each_layer g n) (g n) (fit_each f g n (λ k l. h k (omega arith))) (h n (omega arith))

-- ---- lists end to end, by number
module _ {A : Type 0} (f : ℕ → List A) where
  pub each_more : (n : ℕ) → length (each_layer f (suc n)) ≡ length (each_layer f n) + length (f n)
  unfolding each_layer
  each_more n = length-append (each_layer f n) (f n)

  each_le : (n k : ℕ) → k < n → length (each_layer f k) + length (f k) ≤ length (each_layer f n)
  each_le zero k h = absurd (not-suc-le-zero h)
  each_le (suc n) k h =
      ⊎_elim
      (λ (q : n ≤ k). let e : k ≡ n = omega arith in rw e (omega (arith, each_more n)))
      (λ (q : k < n). omega (arith, each_more n, each_le n k q))
      (le_or_lt n k)

  pub each_at : (d : A) (n k j : ℕ) → k < n → j < length (f k) → get_or (each_layer f n) (length (each_layer f k) + j) d ≡ get_or (f k) j d
  unfolding each_layer
  each_at d zero k j h l = absurd (not-suc-le-zero h)
  each_at d (suc n) k j h l =
      ⊎_elim
      (λ (q : n ≤ k). let e : k ≡ n = omega arith in rw e (get_or-append-add (each_layer f n) (f n) j d))
      (λ (q : k < n). get_or-append (each_layer f n) (f n) d (length (each_layer f k) + j) (omega (arith, each_le n k q)) ∙ each_at d n k j q l)
      (le_or_lt n k)

-- ---- joined and read again
history_fits : (p : Part) (s : Memory) → Fits p s → length s.history ≡ histories_of p
unfolding Fits histories_of
history_fits None s h = ap (λ (s : Memory). length s.history) h
history_fits (Some sh) s h = h

-- the history of part i in all histories
history_at : (ps : List Part) (ss : List Memory) → AllFit ps ss → (i : ℕ) → i < length ps
    → part (total histories_of (take i ps)) (histories_of (get_or ps i None)) (histories_joined ss) ≡ (get_or ss i none).history
unfolding AllFit total histories_joined
history_at [] [] h i l = absurd (not-suc-le-zero l)
history_at [] (s ∷ ss) h i l = absurd h
history_at (p ∷ ps) [] h i l = absurd h
history_at (p ∷ ps) (s ∷ ss) h zero l = take_at s.history (histories_joined ss) (histories_of p) (history_fits p s h.0)
history_at (p ∷ ps) (s ∷ ss) h (suc i) l =
    rw (← history_fits p s h.0, drop-append-add s.history (histories_joined ss) (total histories_of (take i ps))) (history_at ps ss h.1 i (le_of_suc-le-suc l))

-- its place in all positions
place_reached : (ps : List Part) (ss : List Memory) → AllFit ps ss → (i : ℕ) → i < length ps → (sh : Shape) → get_or ps i None ≡ Some sh
    → get_or (positions_joined ps ss) (total positions_of (take i ps)) 0 ≡ (get_or ss i none).place
unfolding AllFit total positions_joined positions_of
place_reached [] [] h i l sh e = absurd (not-suc-le-zero l)
place_reached [] (s ∷ ss) h i l sh e = absurd h
place_reached (p ∷ ps) [] h i l sh e = absurd h
place_reached (None ∷ ps) (s ∷ ss) h zero l sh e = absurd (let z : ◌≡◌ {A = ℕ} 0 1 = cc in omega arith)
place_reached (Some sh' ∷ ps) (s ∷ ss) h zero l sh e = refl
place_reached (None ∷ ps) (s ∷ ss) h (suc i) l sh e = rw (zero-add) (place_reached ps ss h.1 i (le_of_suc-le-suc l) sh e)
place_reached (Some sh' ∷ ps) (s ∷ ss) h (suc i) l sh e =
    let one : 1 + total positions_of (take i ps) ≡ suc (total positions_of (take i ps)) = omega arith in rw one (place_reached ps ss h.1 i (le_of_suc-le-suc l) sh e)

-- the memory of a part, read from all
read_by : (p : Part) (ps : List Part) (ss : List Memory) → AllFit ps ss → (i : ℕ) → i < length ps → get_or ps i None ≡ p
    → memory_in p (place_of (take i ps)) (histories_joined ss) (positions_joined ps ss) ≡ get_or ss i none
unfolding memory_in place_of Fits histories_of
read_by None ps ss h i l e = sym (rw e at (fit_at ps ss h i l))
read_by (Some sh) ps ss h i l e =
    let a : part (total histories_of (take i ps)) (history_count sh) (histories_joined ss) ≡ (get_or ss i none).history = rw e at (history_at ps ss h i l) in
    rw (a, place_reached ps ss h i l sh e)

pub read_again : (ps : List Part) (ss : List Memory) → AllFit ps ss → (i : ℕ) → i < length ps
    → memory_in (get_or ps i None) (place_of (take i ps)) (histories_joined ss) (positions_joined ps ss) ≡ get_or ss i none
read_again ps ss h i l = read_by (get_or ps i None) ps ss h i l refl
