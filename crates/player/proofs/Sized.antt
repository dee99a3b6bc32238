-- What a description that was not refused fits into. Assumes nothing.
use Rattle.std.specs.Prelude.{Ok}
use mathlib.Core.Path.{◌≡◌, sym, ◌∙◌, ap, subst}
use mathlib.Core.List.{List}
use Prim.Native.Nat.{ℕ, ◌*◌, ◌≤◌}
use native.Mathlib.Nat.{mul-le-mul_right}
use native.Mathlib.Omega.{arith}
use lib.Ieee.{Float}
use lib.ListN.{length}
use Rattle.description.specs.Numbers.{head_length}
use Rattle.description.specs.Ranges.{Between}
use Rattle.description.specs.Records.{array_of}
use Rattle.description.specs.Sizes.{sizes_of, widest_of}
use Rattle.description.specs.declared.answers.Sizes.{Sizes}
use Rattle.description.specs.declared.records.ArrayRecord.{ArrayRecord}
use Rattle.description.proofs.Sound.{array_in_range, array_width_le, length_is, positions_most}
use Rattle.description.specs.Checked.{Checked}
use Rattle.reset.specs.Resets.{Resets}
use Rattle.wna.specs.Header.{HeaderAnswer, HeaderAnswers, LowHeader}
use Rattle.wna.specs.Opening.{Described, Opened}
use Rattle.wna.specs.declared.header.Header.{Header}
use Rattle.wna.proofs.Facts.{header_low, opened_is}
use Rattle.player.specs.Fits.{Fits, Ready, Suits, Wide}
use Rattle.player.proofs.Hearing.{reset_heard, reset_passes}

module _ (d : List ℕ) (s : Sizes) (block : ℕ) (o : Opened d s block) where
  widest_is : s.widest ≡ widest_of d
  unfolding sizes_of
  widest_is = ap (λ (s : Sizes). s.widest) o.sizes

  wide : {w : ℕ} → Between 1 32 w → w ≤ widest_of d → Wide w block
  wide {w} b le = record { some = b.least; most = b.most; held = omega (arith, o.planar, mul-le-mul_right block le, ap (λ (x : ℕ). x * block) widest_is) }

  fits_of : Fits (array_of d) block
  fits_of =
      let r = array_in_range d o.sound in
      let le = array_width_le d o.sound in
      record {
        input = wide r.input (le 0);
        condition = wide r.condition (le 1);
        head = wide r.head_in (le 3);
        outs = wide r.head_size (le 4);
        array = wide r.channels (le 2);
      }

  fits_array : {a : ArrayRecord} → a ≡ array_of d → Fits a block
  fits_array e = subst (λ (a : ArrayRecord). Fits a block) (sym e) fits_of

  suits_of : {a : ArrayRecord} → a ≡ array_of d → block ≤ 1024 → Suits d a block
  suits_of e most = record {
    fits = fits_array e;
    array_is = e;
    sound = o.sound;
    planar = omega (arith, o.planar, ap (λ (x : ℕ). x * block) widest_is);
    most = most;
  }

  -- after a reset everything is ready for the first block
  pub ready_first : {a : ArrayRecord} → a ≡ array_of d → block ≤ 1024
      → {w histories : List Float} {positions : List ℕ} {r : ℕ} {histories' : List Float} {positions' : List ℕ} {scratch : List Float} {text : List ℕ}
      → length w ≡ s.weights → length histories ≡ s.histories → length positions ≡ s.positions → Resets d histories positions r histories' positions'
      → 16384 ≤ length scratch → 29696 ≤ length text → Ready d a block 0 w histories' positions' scratch text
  ready_first e most {w} ws hs ps reset rs rt = record {
    suits = suits_of e most;
    weights_are = ws ∙ ap (λ (s : Sizes). s.weights) o.sizes;
    heard = reset_heard reset w
        (reset_passes reset o.sound (hs ∙ ap (λ (s : Sizes). s.histories) o.sizes) (ps ∙ ap (λ (s : Sizes). s.positions) o.sizes));
    last = omega arith;
    scratch_room = rs;
    text_room = rt;
  }

  pub parts-most : s.positions ≤ 290
  unfolding sizes_of
  parts-most = rw (ap (λ (s : Sizes). s.positions) o.sizes) (positions_most d o.sound)

  pub long : head_length ≤ length d
  long = omega (arith, length_is d o.sound)

-- what the answers tell, once their case is known
pub low_by : (f : List ℕ) {r : HeaderAnswer} {h : Header} → HeaderAnswers f r → r ≡ Ok h → LowHeader h
low_by f a e = header_low f (subst (HeaderAnswers f) e a)

-- the reset is not refused
pub reset_done : (d : List ℕ) (s : Sizes) (block : ℕ) → Opened d s block → {histories histories' : List Float} {positions positions' : List ℕ} {r : ℕ}
    → length histories ≡ s.histories → length positions ≡ s.positions → Resets d histories positions r histories' positions' → r ≡ 0
reset_done d s block o hs ps reset =
    reset_passes reset o.sound (hs ∙ ap (λ (s : Sizes). s.histories) o.sizes) (ps ∙ ap (λ (s : Sizes). s.positions) o.sizes)

pub opened_by : {numbers f numbers' : List ℕ} {block : ℕ} {r : Checked} {s : Sizes} → Described numbers f block r numbers' → r ≡ Ok s → Opened numbers' s block
opened_by {numbers} {f} {numbers'} {block} a e = opened_is (subst (λ (r : Checked). Described numbers f block r numbers') e a)
