-- Many columns at once: gathered taps are the sliding window's, so the block's sums are the recurrence's. Assumes nothing.
use mathlib.Core.Path.{◌≡◌, sym, ◌∙◌, ap}
use mathlib.Core.List.{List}
use Prim.Native.Nat.{ℕ, zero, suc, ◌+◌, ◌*◌, ◌%◌, ◌≤◌, ◌<◌}
use native.Mathlib.Omega.{arith}
use lib.ListN.{length}
use lib.Ieee.{Float, nan}
use Rattle.lists.specs.Tab.{at, rows}
use Rattle.lists.specs.Region.{Apart, Beside, Strip, Free}
use Rattle.lists.proofs.Nums.{row_end}
use Rattle.lists.proofs.Rows.{length-rows}
use Rattle.lists.proofs.Regions.{free_then, free_as, free_self, rows_free, rows_strip, rows_beside, strip_as}
use Rattle.ring.specs.Memory.{Memory, Sound, past, after, seen}
use Rattle.ring.proofs.Window.{seen_ext, window}
use Rattle.ring.proofs.Blocks.{after_ext}
use Rattle.history.specs.Fits.{GatherFits, StoreFits}
use Rattle.shape.specs.declared.Shape.{Shape}
use Rattle.shape.specs.Counts.{ring_length, history_count}
use Rattle.column.specs.Recurrence.{start_of, steps_back, channel_of, tap_from, output, remembered}
use Rattle.conv.specs.Fits.{BlockFits, TapFits}
use Rattle.conv.specs.Does.{Played, Tapped, AllTapped, sight}
use Rattle.column.proofs.OneColumn.{sound}
use Rattle.column.proofs.Indices.{reach, channel_in}
use Rattle.column.proofs.Sums.{tap_ext, taps_ext, taps_none, taps_more}

-- every row ends within, in one inequality
rows_fit : (a s n w all : ℕ) → 0 < w → ((c : ℕ) → c < w → a + c * s + n ≤ all) → a + n + w * s ≤ all + s
rows_fit a s n zero all p h = elim p [ ]
rows_fit a s n (suc w) all p h = omega (arith, h w (omega arith))

module _ {sh : Shape} {place len m n nwork nhistory nweights x out rows' : ℕ} (f : BlockFits sh place len m n nwork nhistory nweights x out rows') where
  -- a tap that reads the block itself, or what was gathered of it
  pub block_tap_fits : (k : ℕ) → k < sh.kernel → n % 16 ≡ 0 → TapFits sh nwork nweights out m x m n k
  block_tap_fits k hk w = record {
    range = f.parts.range;
    divided = f.parts.divided;
    weights_is = f.parts.weights_is;
    tap_in = hk;
    whole = w;
    out_in = f.out_in;
    from_in = f.x_in;
    apart = f.out_x;
    narrow = f.narrow;
  }

  pub rows_tap_fits : (k now : ℕ) → k < sh.kernel → n % 16 ≡ 0 → now ≡ nwork → TapFits sh now nweights out m rows' n n k
  rows_tap_fits k now hk w e = record {
    range = f.parts.range;
    divided = f.parts.divided;
    weights_is = f.parts.weights_is;
    tap_in = hk;
    whole = w;
    out_in = rw e f.out_in;
    from_in = λ c hc. omega (arith, e, f.rows_in, row_end c sh.ins n hc);
    apart = λ o c ho hc. omega (arith, f.out_rows o ho, row_end c sh.ins n hc);
    narrow = f.narrow;
  }

  pub gather_fits : (k back : ℕ) → back ≡ steps_back sh k → GatherFits place len nhistory nwork sh.ins rows' x m back n
  unfolding history_count
  gather_fits k back e = record {
    some = f.parts.range.ins_low;
    place_in = f.parts.place_in;
    history_is = rw f.parts.ring_is f.parts.history_is;
    back_in = rw (e, f.parts.ring_is) (reach sh k);
    rows_in = f.rows_in;
    block_in = f.x_in;
    apart = f.rows_x;
  }

  pub store_fits : (now : ℕ) → now ≡ nwork → StoreFits place len nhistory now sh.ins x m n
  unfolding history_count
  store_fits now e = record {
    some = f.parts.range.ins_low;
    place_in = f.parts.place_in;
    history_is = rw f.parts.ring_is f.parts.history_is;
    block_in = rw e f.x_in;
  }

  -- a place of the input is none of the output's, nor of the gathered rows'
  x_beside : (c t : ℕ) → c < sh.ins → t < n → Beside out m sh.outs n (x + c * m + t)
  x_beside c t hc ht o ho = omega (arith, f.out_x o c ho hc, ht)

  x_apart : (c t : ℕ) → c < sh.ins → t < n → Apart rows' (sh.ins * n) (x + c * m + t) 1
  x_apart c t hc ht = omega (arith, f.rows_x c hc, ht)

  out_fit : out + n + sh.outs * m ≤ nwork + m
  out_fit = rows_fit out m n sh.outs nwork f.parts.range.outs_low f.out_in

  -- ---- one tap
  module _ (weights old : List Float) (s : Memory) (k : ℕ) (size : length old ≡ nwork) where
    -- out of the block itself
    pub tapped_here : (last : List Float) → steps_back sh k ≡ 0
        → last ≡ rows out m n sh.outs (λ o t. tap_from sh weights (λ c b. at old (x + c * m + t)) o k (at old (out + o * m + t))) old
        → Tapped sh weights m n x out rows' s old k last
    unfolding seen
    tapped_here last none h = record {
      outs = strip_as (rows_strip out m n sh.outs _ old last h f.narrow (omega (arith, out_fit, size))) (λ o t ho ht.
          tap_ext sh weights _ (sight sh m x old s t) o k (at old (out + o * m + t)) (λ j hj. rw none));
      others = free_as (rows_beside nan out m n sh.outs _ old last h) (λ i p. p.0);
    }

    -- out of the gathered rows
    pub tapped_rows : (work last : List Float) (back : ℕ) → back ≡ steps_back sh k
        → work ≡ rows rows' n n sh.ins (λ c t. seen (λ i. at old (x + c * m + i)) (past sh.ins len s c) back t) old
        → last ≡ rows out m n sh.outs (λ o t. tap_from sh weights (λ c b. at work (rows' + c * n + t)) o k (at work (out + o * m + t))) work
        → Tapped sh weights m n x out rows' s old k last
    tapped_rows work last back e g h =
        let long : length work ≡ length old = ap length g ∙ length-rows rows' n n sh.ins _ old in
        let read = rows_strip rows' n n sh.ins _ old work g (omega arith) (omega (arith, f.rows_in, size)) in
        let free = rows_free nan rows' n sh.ins _ old work g in
        record {
          outs = strip_as (rows_strip out m n sh.outs _ work last h f.narrow (omega (arith, out_fit, size, long))) (λ o t ho ht.
              rw (free.is (out + o * m + t) (omega (arith, f.out_rows o ho, ht)))
              (tap_ext sh weights _ (sight sh m x old s t) o k (at old (out + o * m + t)) (λ j hj.
              read.is (channel_of sh o j) t (channel_in f.parts.divided f.parts.range o j ho hj) ht
              ∙ rw (e, f.parts.ring_is))));
          others = free_then free (rows_beside nan out m n sh.outs _ work last h) (λ i p. p.1) (λ i p. p.0);
        }

  -- ---- tap after tap
  module _ (weights old : List Float) (s : Memory) where
    pub all_none : AllTapped sh weights m n x out rows' s old 0 old
    all_none = record {
      outs = record { is = λ o t ho ht. taps_none sh weights (sight sh m x old s t) o (at old (out + o * m + t)) };
      others = free_self;
    }

    -- what a tap sees in the block is as it was
    sight_kept : {work : List Float} → Free nan (λ i. Beside out m sh.outs n i × Apart rows' (sh.ins * n) i 1) old work → (c b t : ℕ) → c < sh.ins → t < n
        → sight sh m x work s t c b ≡ sight sh m x old s t c b
    sight_kept p c b t hc ht = seen_ext _ _ _ b t (λ i le. p.is (x + c * m + i) (x_beside c i hc (omega arith), x_apart c i hc (omega arith)))

    pub all_more : (work last : List Float) (k : ℕ) → AllTapped sh weights m n x out rows' s old k work → Tapped sh weights m n x out rows' s work k last
        → AllTapped sh weights m n x out rows' s old (k + 1) last
    all_more work last k e h = record {
      outs = record {
        is = λ o t ho ht.
            taps_more sh weights (sight sh m x old s t) o k (at old (out + o * m + t)) (at work (out + o * m + t)) (at last (out + o * m + t)) (e.outs.is o t ho ht)
            (h.outs.is o t ho ht
            ∙ tap_ext sh weights (sight sh m x work s t) (sight sh m x old s t) o k (at work (out + o * m + t))
            (λ j hj. sight_kept e.others (channel_of sh o j) (steps_back sh k) t (channel_in f.parts.divided f.parts.range o j ho hj) ht));
      };
      others = free_then e.others h.others (λ i p. p) (λ i p. p);
    }

  -- ---- the whole: started, every tap added, then stored
  pub columns_are : (weights old history begun work history' : List Float) (place' : ℕ) → length old ≡ nwork → length history ≡ nhistory
      → begun ≡ rows out m n sh.outs (λ o t. start_of sh weights o) old
      → AllTapped sh weights m n x out rows' (record { history = history; place = place }) begun sh.kernel work
      → record { history = history'; place = place' } ≡ after sh.ins len (λ t c. at work (x + c * m + t)) (record { history = history; place = place }) n
      → Played sh weights m n x out rows' old (record { history = history; place = place }) work (record { history = history'; place = place' })
  unfolding output
  columns_are weights old history begun work history' place' size hsize b e h =
      let s : Memory = record { history = history; place = place } in
      let made = rows_beside nan out m n sh.outs _ old begun b in
      let start = rows_strip out m n sh.outs _ old begun b f.narrow (omega (arith, out_fit, size)) in
      let x1 : (c t : ℕ) → c < sh.ins → t < n → at begun (x + c * m + t) ≡ at old (x + c * m + t) = λ c t hc ht. made.is (x + c * m + t) (x_beside c t hc ht) in
      let x2 : (c t : ℕ) → c < sh.ins → t < n → at work (x + c * m + t) ≡ at old (x + c * m + t) =
      λ c t hc ht. e.others.is (x + c * m + t) (x_beside c t hc ht, x_apart c t hc ht) ∙ x1 c t hc ht in
      let known : Sound sh.ins (ring_length sh) s = sound {len = len} {nweights = nweights} s (rw hsize f.parts) in
      record {
        outs = λ g held. record {
          is = λ o t ho ht.
              e.outs.is o t ho ht
              ∙ rw (start.is o t ho ht)
              (taps_ext sh weights _ (past sh.ins (ring_length sh) (remembered sh g s (suc t))) o (start_of sh weights o) (λ j k hj.
              let hc = channel_in f.parts.divided f.parts.range o j ho hj in
              seen_ext _ _ _ (steps_back sh k) t (λ i le. x1 (channel_of sh o j) i hc (omega arith) ∙ held.is (channel_of sh o j) i hc (omega arith))
              ∙ sym (window known g t (channel_of sh o j) (steps_back sh k) hc (reach sh k)))
              sh.kernel);
        };
        memory = λ g held.
            h ∙ rw f.parts.ring_is (after_ext sh.ins (ring_length sh) _ g s n (λ t c ht hc. x2 c t hc ht ∙ held.is c t hc ht));
        others = free_then made e.others (λ i p. p.0) (λ i p. p);
      }

-- one column is a block of one
pub column_is : {sh : Shape} {place len m nwork nhistory nweights x out rows' : ℕ} (weights old work : List Float) (s s' : Memory)
    → BlockFits sh place len m 1 nwork nhistory nweights x out rows' → length old ≡ nwork → s' ≡ remembered sh (λ t c. at old (x + c * m + t)) s 1
    → work ≡ rows out m 1 sh.outs (λ o t. output sh weights s' o) old → Played sh weights m 1 x out rows' old s work s'
column_is {sh} {m = m} {x = x} {out = out} weights old work s s' f size e h =
    let same : (g : ℕ → ℕ → Float) → Strip x m sh.ins 1 (λ c t. g t c) old → s' ≡ remembered sh g s 1 =
    λ g held. e ∙ after_ext sh.ins (ring_length sh) _ g s 1 (λ t c ht hc. held.is c t hc ht) in
    record {
      outs = λ g held. strip_as (rows_strip out m 1 sh.outs _ old work h f.narrow (omega (arith, out_fit f, size))) (λ o t ho ht.
          let none : t ≡ 0 = omega arith in
          rw none (ap (λ (q : Memory). output sh weights q o) (same g held)));
      memory = same;
      others = free_as (rows_beside nan out m 1 sh.outs _ old work h) (λ i p. p.0);
    }
