-- What fits into the program's buffers, in numbers. Assumes nothing.
use mathlib.Core.Path.{◌≡◌, ◌∙◌, subst}
use mathlib.Core.List.{List}
use Prim.Native.Nat.{ℕ, ◌+◌, ◌*◌, ◌/◌, ◌≤◌, ◌<◌}
use native.Mathlib.Nat.{mul-div-le, mul-le-mul_left}
use native.Mathlib.Omega.{arith}
use lib.Ieee.{Float}
use lib.ListN.{length}
use Rattle.description.specs.Sizes.{widest_of}
use Rattle.description.specs.declared.records.ArrayRecord.{ArrayRecord}
use Rattle.lists.proofs.Nums.{div_lt, row_next}
use Rattle.wna.specs.File.{width_of}
use Rattle.wna.specs.Stream.{next_block, whole_in}
use Rattle.player.specs.Fits.{Fits, Ready, Suits, Wide}
use Rattle.std.specs.Prelude.{OnErr, Ok, Err, Result}
use Rattle.player.specs.Plays.{Heard, Partly}
use Rattle.player.specs.Lent.{SameDesk}
use Rattle.player.specs.declared.lent.Desk.{Desk}

-- a block's text
pub text_room : (a : ArrayRecord) (n l : ℕ) → Fits a n → n ≤ 1024 → 29696 ≤ l → n * (9 * (a.head_size + a.channels) + 11) ≤ l
text_room a n l f h le = omega (arith, f.outs.held, f.array.held)

-- a block's bytes
pub bytes_room : (a : ArrayRecord) (n : ℕ) → Fits a n → 4 * (n * width_of a) ≤ 12288
bytes_room a n f = omega (arith, f.input.held, f.condition.held, f.head.held)

-- fewer columns
less : {w n m : ℕ} → Wide w n → m ≤ n → Wide w m
less {w} {n} {m} f le = record { some = f.some; most = f.most; held = omega (arith, f.held, mul-le-mul_left w le) }

fits_less : {a : ArrayRecord} {n m : ℕ} → Fits a n → m ≤ n → Fits a m
fits_less f le =
    record { input = less f.input le; condition = less f.condition le; head = less f.head le; outs = less f.outs le; array = less f.array le }

-- fewer columns, or later ones: what a block asks is kept by the blocks before it
suits_less : {d : List ℕ} {a : ArrayRecord} {n m : ℕ} → Suits d a n → m ≤ n → Suits d a m
suits_less {d} {a} {n} {m} s le = record {
  fits = fits_less s.fits le;
  array_is = s.array_is;
  sound = s.sound;
  planar = omega (arith, s.planar, mul-le-mul_left (widest_of d) le);
  most = omega (arith, s.most);
}

pub ready_on : {d : List ℕ} {a : ArrayRecord} {n first : ℕ} {w histories : List Float} {positions : List ℕ} {scratch : List Float} {text : List ℕ}
    → Ready d a n first w histories positions scratch text → {m next : ℕ} {histories' : List Float} {positions' : List ℕ} {scratch' : List Float} {text' : List ℕ}
    → m ≤ n → Heard d w next histories' positions' → next + m ≤ 4294967296 → 16384 ≤ length scratch' → 29696 ≤ length text'
    → Ready d a m next w histories' positions' scratch' text'
ready_on r le heard last rs rt = record {
  suits = suits_less r.suits le;
  weights_are = r.weights_are;
  heard = heard;
  last = last;
  scratch_room = rs;
  text_room = rt;
}

pub heard_at : {d : List ℕ} {w histories : List Float} {positions : List ℕ} {m n : ℕ} → Heard d w m histories positions → m ≡ n → Heard d w n histories positions
heard_at {d} {w} {histories} {positions} h e = subst (λ (m : ℕ). Heard d w m histories positions) e h

-- the whole columns of what was read: no more than were asked for, and all there
pub whole_most : (width n got : ℕ) {r : ℕ} → 0 < width → got ≤ 4 * (n * width) → r ≡ whole_in width got → r ≤ n
unfolding whole_in
whole_most width n got pos h e =
    let lt : got / (4 * width) < n + 1 = div_lt got (n + 1) (4 * width) (omega (arith, row_next n (4 * width))) (omega arith) in
    omega (arith, lt)

pub whole_there : (width got : ℕ) {r : ℕ} → r ≡ whole_in width got → 4 * (r * width) ≤ got
unfolding whole_in
whole_there width got e = rw e (omega (arith, mul-div-le got (4 * width)))

-- the next block: within the block size and what is left, and at least a column
pub record Next (block left n : ℕ) : Type 0 where
  pub within : n ≤ block
  pub there : n ≤ left
  pub some : 1 ≤ n

pub next_is : (block left : ℕ) {n : ℕ} → n ≡ next_block block left → 1 ≤ block → 1 ≤ left → Next block left n
unfolding next_block
next_is block left e hb hl = record { within = omega arith; there = omega arith; some = omega arith }

-- a fact stands on an error too
pub on_err : {T E P : Type 0} (r : Result T E) → P → OnErr r P
on_err (Ok x) p = tt
on_err (Err e) p = p

-- some of the columns from the first on, and of all columns
pub partly : {d : List ℕ} {w histories : List Float} {positions : List ℕ} {first n : ℕ} (played : ℕ)
    → played ≤ n → Heard d w (first + played) histories positions → Partly d w first n histories positions
partly played most heard = record { played = played; most = most; heard = heard }

pub partly_of : {d : List ℕ} {w histories : List Float} {positions : List ℕ} {first n columns : ℕ}
    → Partly d w first n histories positions → first + n ≤ columns → Partly d w 0 columns histories positions
partly_of {first = first} p le = partly (first + p.played) (omega (arith, p.most)) (heard_at p.heard (omega arith))

-- the same desk after one call and another
pub same_on : {k k' k'' : Desk} → SameDesk k k' → SameDesk k' k'' → SameDesk k k''
same_on a b = record {
  histories = b.histories ∙ a.histories;
  positions = b.positions ∙ a.positions;
  text = b.text ∙ a.text;
  text_long = b.text_long ∙ a.text_long;
}
