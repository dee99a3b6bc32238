-- Stage L + 1: the steps of its turn are a turn by the definition. Assumes nothing.
use Rattle.std.specs.Prelude.{None, Some}
use mathlib.Core.Path.{◌≡◌, sym, ◌∙◌, ap, subst}
use mathlib.Core.List.{List, [], ◌∷◌}
use Prim.Native.Nat.{ℕ, suc, ◌+◌, ◌*◌, ◌≤◌, ◌<◌}
use native.Mathlib.Nat.{add-zero}
use native.Mathlib.Omega.{arith}
use lib.ListN.{length, get_or}
use lib.Seq.{take_all}
use lib.Ieee.{Float, nan}
use Rattle.lists.specs.Tab.{at, tab, rows}
use Rattle.lists.specs.Region.{Apart, Holds, Strip, Free}
use Rattle.lists.proofs.Nums.{row_end}
use borrow.Author.Tests.{le-ltb}
use Rattle.stage.proofs.Placing.{number_in, placed_on}
use Rattle.lists.proofs.Tab.{at-tab, tab_ext}
use Rattle.lists.proofs.Regions.{free_then, free_as, rows_free, rows_holds, rows_strip, rows_beside, strip_as}
use Rattle.ring.specs.Memory.{Memory}
use Rattle.shape.specs.declared.Shape.{Shape}
use Rattle.shape.specs.Counts.{history_count, ring_length}
use Rattle.turns.specs.Turn.{run_from}
use Rattle.description.specs.Numbers.{layer_count}
use Rattle.description.specs.Parts.{parts_of, head_rechannel_of}
use Rattle.description.specs.Records.{array_of}
use Rattle.description.specs.Sizes.{place_at, place_of, widest_of, histories_of, positions_of, past_of}
use Rattle.description.specs.declared.places.Place.{Place}
use Rattle.description.specs.declared.records.ArrayRecord.{ArrayRecord}
use Rattle.description.specs.Refusals.{refusal_of}
use Rattle.description.proofs.Sound.{part_last, place_next, length-parts, array_width_le}
use Rattle.slot.specs.View.{weights_in, memory_in}
use Rattle.slot.specs.Steps.{pushed, convolved}
use Rattle.slot.specs.Play.{Played}
use Rattle.slot.proofs.Trace.{place_stays}
use Rattle.layer.specs.Pieces.{ins_of, outs_of}
use Rattle.array.specs.Stages.{Column, part_at, first_part, part_count, memory_at, weights_of_part, next, out, headed}
use Rattle.array.specs.Memories.{memories_of, memory_of_part}
use Rattle.array.specs.Planar.{column_in}
use Rattle.array.specs.Lent.{Given}
use Rattle.array.specs.Turn.{Changing, start_of, column_at, between, past, entering, leaving, TurnDone}
use Rattle.stage.specs.declared.span.Span.{Span}
use Rattle.stage.specs.Turns.{StageFits}
use Rattle.stage.proofs.ByKind.{LastTurn, given_of, changing_of}
use Rattle.stage.proofs.Columns.{block_column, block_kept, column_kept}
use Rattle.stage.proofs.Widths.{Room, array_room, part_fits}
use Rattle.stage.proofs.Single.{single_remembers, single_gives}

module _ {d : List ℕ} {weights : List Float} {span : Span} {start : Place} {h0 h1 : List Float} (w0 w1 w2 head0 array0 head1 array1 : List Float) {p0 p1 : List ℕ} {sh : Shape}
    (fits : StageFits d span (suc (layer_count d)) start (length weights) (length h0) p0 (length w0)) (is : head_rechannel_of (array_of d) ≡ Some sh)
    (head_long : length head0 ≡ (array_of d).head_size * span.n) (array_long : length array0 ≡ (array_of d).channels * span.n)
    (s1 : w1 ≡ rows (3 * span.size) span.count span.count (array_of d).head_in (λ c t. at w0 (span.size + span.from + c * span.n + t)) w0)
    (s2 : Played sh start weights span.count (3 * span.size) (4 * span.size) (5 * span.size) w1 h0 p0 w2 h1 p1)
    (s3 : head1 ≡ rows span.from span.n span.count (array_of d).head_size (λ c t. at w2 (4 * span.size + c * span.count + t)) head0)
    (s4 : array1 ≡ rows span.from span.n span.count (array_of d).channels (λ c t. at w2 (span.from + c * span.n + t)) array0) where
  abbrev size : ℕ
  size = span.size

  abbrev n : ℕ
  n = span.n

  abbrev from : ℕ
  from = span.from

  abbrev count : ℕ
  count = span.count

  abbrev width : ℕ
  width = (array_of d).head_in

  abbrev outs : ℕ
  outs = (array_of d).head_size

  abbrev channels : ℕ
  channels = (array_of d).channels

  abbrev k : ℕ
  k = suc (layer_count d)

  ins_are : sh.ins ≡ width
  unfolding ins_of head_rechannel_of
  ins_are = sym (ap ins_of is)

  outs_are : sh.outs ≡ outs
  unfolding outs_of head_rechannel_of
  outs_are = sym (ap outs_of is)

  room_channels : Room channels span
  room_channels = array_room fits 2

  room_head : Room width span
  room_head = array_room fits 3

  -- the stage has one part
  part_is : get_or (parts_of d) (first_part k) None ≡ Some sh
  unfolding first_part
  part_is = let e : 1 + 12 * layer_count d ≡ 12 * layer_count d + 1 = omega arith in rw e (part_last d ∙ is)

  last_next : start_of d (suc k) ≡ past_of start (Some sh)
  unfolding place_at first_part
  last_next =
      let far : length (parts_of d) ≤ 1 + 12 * suc (layer_count d) = omega (arith, length-parts d) in
      let near : length (parts_of d) ≤ 1 + 12 * layer_count d + 1 = omega (arith, length-parts d) in
      ap place_of (take_all _ (parts_of d) far ∙ sym (take_all _ (parts_of d) near))
      ∙ place_next d (1 + 12 * layer_count d) (omega (arith, length-parts d))
      ∙ rw (fits.start_is, part_is)

  remembers : (h : List Float) (p : List ℕ) → memories_of d h p k ≡ memory_in (Some sh) start h p ∷ []
  unfolding memories_of memory_of_part part_at part_count tab
  remembers h p = rw (le-ltb (layer_count d) (layer_count d) (omega arith), add-zero (first_part k), fits.start_is, part_is)

  weights_are : weights_of_part d weights (1 + 12 * layer_count d) ≡ weights_in (Some sh) start weights
  unfolding weights_of_part part_at first_part
  weights_are = rw (fits.start_is, part_is)

  pushes : (s : List Memory) (v : Column) → next d weights k s v ≡ pushed (Some sh) (memory_at s 0) (at v.accumulator) ∷ []
  unfolding next
  pushes s v = rw (le-ltb (layer_count d) (layer_count d) (omega arith), is)

  -- what stays: the first two regions
  all_kept : Free nan (λ i. i < 2 * size) w0 w2
  all_kept = free_then (rows_free nan (3 * size) count width _ w0 w1 s1) s2.others (λ i h. omega (arith, h)) (λ i h. (omega (arith, h), omega (arith, h)))

  module _ (input condition headIn : List Float) where
    abbrev b : Given
    b = given_of d weights input condition headIn

    abbrev e0 : Changing
    e0 = changing_of h0 p0 head0 array0 w0

    abbrev e1 : Changing
    e1 = changing_of h1 p1 head1 array1 w2

    held : Holds (3 * size) sh.ins count (λ c t. at (entering b n e0 k (from + t)).accumulator c) w1
    unfolding entering between column_at
    held = record {
      is = λ c t hc ht.
          let hi : c < width = omega (arith, hc, ins_are) in
          let e : size + from + c * n + t ≡ widest_of d * n + c * n + (from + t) = omega (arith, fits.size_is) in
          (rows_holds (3 * size) count width _ w0 w1 s1 (omega (arith, room_head.of_turn, fits.scratch_is))).is c t hi ht
          ∙ ap (at w0) e ∙ sym (at-tab nan width (λ c. at w0 (widest_of d * n + c * n + (from + t))) c hi);
    }

    abbrev run : ℕ → List Memory
    run t = run_from (next d weights) (out d weights) k (memories_of d h0 p0 k) from (entering b n e0 k) t

    memories : memories_of d h1 p1 k ≡ run count
    memories =
        remembers h1 p1
        ∙ single_remembers (next d weights) (out d weights) k sh (λ v. at v.accumulator) pushes s2 from (entering b n e0 k) held (memories_of d h0 p0 k) (remembers h0 p0)

    -- the columns of the turn, as the convolution gave them
    abbrev given : ℕ → ℕ → Float
    given c t = convolved (Some sh) (weights_in (Some sh) start weights) (pushed (Some sh) (memory_at (run t) 0) (at (entering b n e0 k (from + t)).accumulator)) c

    gives : Strip from n outs count given head1
    gives =
        let g = single_gives (next d weights) (out d weights) k sh (λ v. at v.accumulator) pushes s2 from (entering b n e0 k) held (memories_of d h0 p0 k) (remembers h0 p0) in
        strip_as (rows_strip from n count outs _ head0 head1 s3 (omega (arith, fits.columns_inside)) (omega (arith, head_long, fits.columns_inside)))
        (λ c t hc ht. g.is c t (omega (arith, hc, outs_are)) ht)

    accumulator_is : (i : ℕ) → i < count → column_in outs n head1 (from + i)
        ≡ tab outs (convolved (head_rechannel_of (array_of d)) (weights_of_part d weights (1 + 12 * layer_count d)) (pushed (head_rechannel_of (array_of d)) (memory_at (run i) 0) (at (entering b n e0 k (from + i)).accumulator)))
    accumulator_is i h = rw (is, weights_are) (block_column n outs from count gives i h)

    signal_is : (i : ℕ) → i < count → column_in channels n array1 (from + i) ≡ column_at b n 0 channels w0 (from + i)
    unfolding column_at
    signal_is i h =
        block_column n channels from count
        (rows_strip from n count channels _ array0 array1 s4 (omega (arith, fits.columns_inside)) (omega (arith, array_long, fits.columns_inside))) i h
        ∙ tab_ext nan channels (λ c. at w2 (from + c * n + i)) (λ c. at w0 (0 + c * n + (from + i)))
        (λ c hc.
        let q = row_end c channels n hc in
        let e : from + c * n + i ≡ 0 + c * n + (from + i) = omega arith in
        ap (at w2) e ∙ all_kept.is (0 + c * n + (from + i)) (omega (arith, q, h, room_channels.of_block, fits.columns_inside)))

    columns : (i : ℕ) → i < count → leaving b n e1 k (from + i) ≡ out d weights k (run i) (entering b n e0 k (from + i))
    unfolding leaving past out headed entering between
    columns i h = rw (le-ltb k (layer_count d + 1) (omega arith), le-ltb (layer_count d) (layer_count d) (omega arith), signal_is i h, accumulator_is i h)

    -- columns that were not taken
    others : (t : ℕ) → t < n → Apart from count t 1 → (between b n e1 t ≡ between b n e0 t) × (past b n e1 t ≡ past b n e0 t)
    unfolding between past column_at
    others t ht outside =
        let s = column_kept all_kept 0 n channels t (λ c hc. let q = row_end c channels n hc in omega (arith, q, ht, room_channels.of_block)) in
        let a = column_kept all_kept (widest_of d * n) n width t (λ c hc. let q = row_end c width n hc in omega (arith, q, ht, room_head.of_block, fits.size_is)) in
        let p = block_kept n outs from count (rows_beside nan from n count outs _ head0 head1 s3) t fits.columns_inside ht outside in
        let q = block_kept n channels from count (rows_beside nan from n count channels _ array0 array1 s4) t fits.columns_inside ht outside in
        (rw (s, a), rw (p, q))

    done : TurnDone b n k from count e0 e1
    unfolding past_of histories_of positions_of
    done = record {
      memories = memories;
      columns = columns;
      histories_kept = free_as s2.histories_kept (λ i h. omega (arith, h, ap (λ (p : Place). p.histories) last_next, ap (λ (p : Place). p.histories) fits.start_is));
      positions_kept = free_as s2.positions_kept (λ i h. omega (arith, h, ap (λ (p : Place). p.positions) last_next, ap (λ (p : Place). p.positions) fits.start_is));
      before_kept = λ t h. others t (omega (arith, h, fits.columns_inside)) (omega (arith, h));
      after_kept = λ t h l. others t l (omega (arith, h));
    }

  -- its position
  at_last : get_or p1 (place_at d (first_part k)).positions 0 < ring_length sh
  at_last =
      let before : get_or p0 start.positions 0 < ring_length sh = rw fits.start_is (fits.places.is (first_part k) sh part_is) in
      let room : start.histories + history_count sh ≤ length h0 = rw fits.start_is (part_fits fits (first_part k) sh part_is).1 in
      rw fits.start_is at (place_stays s2 room before)

  own : (i : ℕ) (sh' : Shape) → first_part k ≤ i → i < first_part (suc k) → get_or (parts_of d) i None ≡ Some sh' → get_or p1 (place_at d i).positions 0 < ring_length sh'
  unfolding first_part
  own i sh' lo hi q =
      let z : i ≡ first_part k = omega (arith, lo, number_in (parts_of d) i sh' q, length-parts d) in
      let same : Some sh ≡ Some sh' = sym part_is ∙ (rw z at q) in
      let e : sh ≡ sh' = cc in
      rw (z, ← e) at_last

  last_is : LastTurn d weights span h0 p0 w0 h1 p1 w2 head0 array0 head1 array1
  last_is = record { by = done; places = placed_on d k fits.places (done [] [] []).positions_kept own }

-- the same of a record that is the description's, as the code reads it
pub exit_turn : {d : List ℕ} {weights : List Float} {span : Span} {start : Place} {h0 h1 : List Float} (w0 w1 w2 head0 array0 head1 array1 : List Float) {p0 p1 : List ℕ} {sh : Shape}
    (a : ArrayRecord) → a ≡ array_of d → StageFits d span (suc (layer_count d)) start (length weights) (length h0) p0 (length w0)
    → length head0 ≡ (array_of d).head_size * span.n → length array0 ≡ (array_of d).channels * span.n → head_rechannel_of a ≡ Some sh
    → w1 ≡ rows (3 * span.size) span.count span.count a.head_in (λ c t. at w0 (span.size + span.from + c * span.n + t)) w0
    → Played sh start weights span.count (3 * span.size) (4 * span.size) (5 * span.size) w1 h0 p0 w2 h1 p1
    → head1 ≡ rows span.from span.n span.count a.head_size (λ c t. at w2 (4 * span.size + c * span.count + t)) head0
    → array1 ≡ rows span.from span.n span.count a.channels (λ c t. at w2 (span.from + c * span.n + t)) array0
    → (past_of start (Some sh) ≡ start_of d (suc (suc (layer_count d)))) × LastTurn d weights span h0 p0 w0 h1 p1 w2 head0 array0 head1 array1
exit_turn {d} {weights} {span} {start} {h0} {h1} w0 w1 w2 head0 array0 head1 array1 {p0} {p1} {sh} a e fits head_long array_long =
    subst (λ (a : ArrayRecord). head_rechannel_of a ≡ Some sh
    → w1 ≡ rows (3 * span.size) span.count span.count a.head_in (λ c t. at w0 (span.size + span.from + c * span.n + t)) w0
    → Played sh start weights span.count (3 * span.size) (4 * span.size) (5 * span.size) w1 h0 p0 w2 h1 p1
    → head1 ≡ rows span.from span.n span.count a.head_size (λ c t. at w2 (4 * span.size + c * span.count + t)) head0
    → array1 ≡ rows span.from span.n span.count a.channels (λ c t. at w2 (span.from + c * span.n + t)) array0
    → (past_of start (Some sh) ≡ start_of d (suc (suc (layer_count d)))) × LastTurn d weights span h0 p0 w0 h1 p1 w2 head0 array0 head1 array1)
    (sym e)
    (λ is s1 s2 s3 s4. (
      sym (last_next w0 w1 w2 head0 array0 head1 array1 fits is head_long array_long s1 s2 s3 s4),
      last_is w0 w1 w2 head0 array0 head1 array1 fits is head_long array_long s1 s2 s3 s4,
    ))

-- the head rechannel as a part, and its widths
pub head_part : (d : List ℕ) {a : ArrayRecord} {sh : Shape} → a ≡ array_of d → head_rechannel_of a ≡ Some sh → get_or (parts_of d) (first_part (suc (layer_count d))) None ≡ Some sh
unfolding first_part
head_part d e is = let q : 1 + 12 * layer_count d ≡ 12 * layer_count d + 1 = omega arith in rw q (part_last d ∙ ap head_rechannel_of (sym e) ∙ is)

pub head_widths : (d : List ℕ) {a : ArrayRecord} {sh : Shape} → refusal_of d ≡ 0 → a ≡ array_of d → head_rechannel_of a ≡ Some sh
    → (sh.ins ≤ widest_of d) × (sh.outs ≤ widest_of d)
unfolding ins_of outs_of head_rechannel_of
head_widths d ok e is =
    let i = sym (ap ins_of is) ∙ ap (λ (a : ArrayRecord). a.head_in) e in
    let o = sym (ap outs_of is) ∙ ap (λ (a : ArrayRecord). a.head_size) e in
    (omega (arith, i, array_width_le d ok 3), omega (arith, o, array_width_le d ok 4))
