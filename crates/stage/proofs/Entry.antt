-- Stage 0: the steps of its turn are a turn by the definition. Assumes nothing.
use Rattle.std.specs.Prelude.{None, Some}
use mathlib.Core.Path.{◌≡◌, refl, sym, ◌∙◌, ap, subst}
use mathlib.Core.List.{List, [], ◌∷◌}
use Prim.Native.Nat.{ℕ, ◌+◌, ◌*◌, ◌≤◌, ◌<◌}
use native.Mathlib.Nat.{zero-add}
use native.Mathlib.Omega.{arith}
use lib.ListN.{length, get_or}
use lib.Ieee.{Float, nan}
use Rattle.lists.specs.Tab.{at, tab, rows}
use Rattle.lists.specs.Region.{Apart, Holds, Strip, Free, Beside}
use Rattle.lists.proofs.Nums.{row_end}
use borrow.Author.Tests.{lt-ltb}
use Rattle.stage.proofs.Placing.{placed_on}
use Rattle.lists.proofs.Tab.{at-tab, tab_ext}
use Rattle.lists.proofs.Rows.{length-rows}
use Rattle.lists.proofs.Regions.{free_then, free_as, rows_free, rows_holds, rows_strip, rows_beside, strip_as, strip_free}
use Rattle.ring.specs.Memory.{Memory}
use Rattle.shape.specs.declared.Shape.{Shape}
use Rattle.shape.specs.Counts.{history_count, ring_length}
use Rattle.turns.specs.Turn.{run_from}
use Rattle.description.specs.Numbers.{layer_count}
use Rattle.description.specs.Parts.{parts_of, rechannel_of}
use Rattle.description.specs.Records.{array_of}
use Rattle.description.specs.Sizes.{place_at, widest_of, histories_of, positions_of, past_of}
use Rattle.description.specs.declared.places.Place.{Place}
use Rattle.description.specs.declared.records.ArrayRecord.{ArrayRecord}
use Rattle.description.specs.Refusals.{refusal_of}
use Rattle.description.proofs.Sound.{part_first, place_next, length-parts, array_width_le}
use Rattle.slot.specs.View.{weights_in, memory_in}
use Rattle.slot.specs.Steps.{pushed, convolved}
use Rattle.slot.specs.Play.{Played}
use Rattle.slot.proofs.Trace.{place_stays}
use Rattle.layer.specs.Pieces.{ins_of, outs_of}
use Rattle.array.specs.Stages.{Column, part_at, first_part, part_count, memory_at, weights_of_part, next, out, rechannelled}
use Rattle.array.specs.Memories.{memories_of, memory_of_part}
use Rattle.array.specs.Planar.{column_in}
use Rattle.array.specs.Lent.{Given}
use Rattle.array.specs.Turn.{Changing, start_of, column_at, comes, between, past, entering, leaving, TurnDone}
use Rattle.stage.specs.declared.span.Span.{Span}
use Rattle.stage.specs.Turns.{StageFits}
use Rattle.stage.proofs.ByKind.{FirstTurn, given_of, changing_of}
use Rattle.stage.proofs.Columns.{column_taken, beside_column, column_kept}
use Rattle.stage.proofs.Widths.{Room, array_room, part_fits}
use Rattle.stage.proofs.Single.{single_remembers, single_gives}

module _ {d : List ℕ} {weights : List Float} (input headIn : List Float) {span : Span} {start : Place} {h0 h1 : List Float} (w0 w1 w2 w3 w4 : List Float) {p0 p1 : List ℕ} {sh : Shape}
    (fits : StageFits d span 0 start (length weights) (length h0) p0 (length w0)) (is : rechannel_of (array_of d) ≡ Some sh)
    (s1 : w1 ≡ rows (2 * span.size) span.count span.count (array_of d).input (λ c t. at input (span.from + c * span.n + t)) w0)
    (s2 : Played sh start weights span.count (2 * span.size) (3 * span.size) (4 * span.size) w1 h0 p0 w2 h1 p1)
    (s3 : w3 ≡ rows span.from span.n span.count (array_of d).channels (λ c t. at w2 (3 * span.size + c * span.count + t)) w2)
    (s4 : w4 ≡ rows (span.size + span.from) span.n span.count (array_of d).head_in (λ c t. at headIn (span.from + c * span.n + t)) w3) where
  abbrev size : ℕ
  size = span.size

  abbrev n : ℕ
  n = span.n

  abbrev from : ℕ
  from = span.from

  abbrev count : ℕ
  count = span.count

  abbrev ins : ℕ
  ins = (array_of d).input

  abbrev channels : ℕ
  channels = (array_of d).channels

  abbrev width : ℕ
  width = (array_of d).head_in

  ins_are : sh.ins ≡ ins
  unfolding ins_of rechannel_of
  ins_are = sym (ap ins_of is)

  outs_are : sh.outs ≡ channels
  unfolding outs_of rechannel_of
  outs_are = sym (ap outs_of is)

  room_in : Room ins span
  room_in = array_room fits 0

  room_channels : Room channels span
  room_channels = array_room fits 2

  room_head : Room width span
  room_head = array_room fits 3

  -- the scratch keeps its length
  long1 : length w1 ≡ 16 * size
  long1 = rw s1 (length-rows (2 * size) count count ins _ w0 ∙ fits.scratch_is)

  long2 : length w2 ≡ 16 * size
  long2 = s2.others.long ∙ long1

  long3 : length w3 ≡ 16 * size
  long3 = rw s3 (length-rows from n count channels _ w2 ∙ long2)

  -- the stage has one part
  first_next : start_of d 1 ≡ past_of start (Some sh)
  unfolding first_part
  first_next = place_next d 0 (omega (arith, length-parts d)) ∙ rw (part_first d, is, fits.start_is)

  part_is : get_or (parts_of d) 0 None ≡ Some sh
  part_is = part_first d ∙ is

  remembers : (h : List Float) (p : List ℕ) → memories_of d h p 0 ≡ memory_in (Some sh) start h p ∷ []
  unfolding memories_of memory_of_part part_at part_count first_part tab
  remembers h p = rw (fits.start_is, part_is)

  weights_are : weights_of_part d weights 0 ≡ weights_in (Some sh) start weights
  unfolding weights_of_part part_at first_part
  weights_are = rw (fits.start_is, part_is)

  pushes : (s : List Memory) (v : Column) → next d weights 0 s v ≡ pushed (Some sh) (memory_at s 0) (at v.signal) ∷ []
  unfolding next
  pushes s v = rw is

  -- what stays: the first two regions but for the columns taken
  all_kept : Free nan (λ i. (i < 2 * size) × Beside from n channels count i × Beside (size + from) n width count i) w0 w4
  all_kept =
      let k1 = rows_free nan (2 * size) count ins _ w0 w1 s1 in
      let k3 = rows_beside nan from n count channels _ w2 w3 s3 in
      let k4 = rows_beside nan (size + from) n count width _ w3 w4 s4 in
      let k12 : Free nan (λ i. i < 2 * size) w0 w2 = free_then k1 s2.others (λ i h. omega (arith, h)) (λ i h. (omega (arith, h), omega (arith, h))) in
      free_then (free_then k12 k3 (λ i (h : (i < 2 * size) × Beside from n channels count i). h.0) (λ i h. h.1)) k4 (λ i h. (h.0, h.1)) (λ i h. h.2)

  module _ (condition headOut arrayOut : List Float) where
    abbrev b : Given
    b = given_of d weights input condition headIn

    abbrev e0 : Changing
    e0 = changing_of h0 p0 headOut arrayOut w0

    abbrev e1 : Changing
    e1 = changing_of h1 p1 headOut arrayOut w4

    held : Holds (2 * size) sh.ins count (λ c t. at (entering b n e0 0 (from + t)).signal c) w1
    unfolding entering comes column_in
    held = record {
      is = λ c t hc ht.
          let hi : c < ins = omega (arith, hc, ins_are) in
          let e : from + c * n + t ≡ c * n + (from + t) = omega arith in
          (rows_holds (2 * size) count ins _ w0 w1 s1 (omega (arith, room_in.of_turn, fits.scratch_is))).is c t hi ht
          ∙ ap (at input) e ∙ sym (at-tab nan ins (λ c. at input (c * n + (from + t))) c hi);
    }

    abbrev run : ℕ → List Memory
    run t = run_from (next d weights) (out d weights) 0 (memories_of d h0 p0 0) from (entering b n e0 0) t

    memories : memories_of d h1 p1 0 ≡ run count
    memories =
        remembers h1 p1
        ∙ single_remembers (next d weights) (out d weights) 0 sh (λ v. at v.signal) pushes s2 from (entering b n e0 0) held (memories_of d h0 p0 0) (remembers h0 p0)

    -- the columns of the turn, as the convolution gave them
    abbrev given : ℕ → ℕ → Float
    given c t = convolved (Some sh) (weights_in (Some sh) start weights) (pushed (Some sh) (memory_at (run t) 0) (at (entering b n e0 0 (from + t)).signal)) c

    gives : Strip from n channels count given w4
    gives =
        let g = single_gives (next d weights) (out d weights) 0 sh (λ v. at v.signal) pushes s2 from (entering b n e0 0) held (memories_of d h0 p0 0) (remembers h0 p0) in
        let in3 = strip_as (rows_strip from n count channels _ w2 w3 s3 (omega (arith, fits.columns_inside)) (omega (arith, long2, room_channels.of_block, fits.columns_inside)))
        (λ c t hc ht. g.is c t (omega (arith, hc, outs_are)) ht) in
        strip_free (rows_beside nan (size + from) n count width _ w3 w4 s4)
        (λ c t hc ht o ho. let q = row_end c channels n hc in omega (arith, q, ht, room_channels.of_block, fits.columns_inside)) in3

    signal_is : (i : ℕ) → i < count → column_at b n 0 channels w4 (from + i)
        ≡ tab channels (convolved (rechannel_of (array_of d)) (weights_of_part d weights 0) (pushed (rechannel_of (array_of d)) (memory_at (run i) 0) (at (entering b n e0 0 (from + i)).signal)))
    unfolding column_at
    signal_is i h = rw (is, weights_are) (column_taken 0 n channels from count from (sym (zero-add from)) gives i h)

    accumulator_is : (i : ℕ) → i < count → column_at b n (widest_of d * n) width w4 (from + i) ≡ column_in width n headIn (from + i)
    unfolding column_at column_in
    accumulator_is i h =
        column_taken (widest_of d * n) n width from count (size + from) (omega (arith, fits.size_is))
        (rows_strip (size + from) n count width _ w3 w4 s4 (omega (arith, fits.columns_inside)) (omega (arith, long3, room_head.of_block, fits.columns_inside))) i h
        ∙ tab_ext nan width (λ c. at headIn (from + c * n + i)) (λ c. at headIn (c * n + (from + i)))
        (λ c hc. let e : from + c * n + i ≡ c * n + (from + i) = omega arith in ap (at headIn) e)

    columns : (i : ℕ) → i < count → leaving b n e1 0 (from + i) ≡ out d weights 0 (run i) (entering b n e0 0 (from + i))
    unfolding leaving between out rechannelled entering comes
    columns i h = rw (lt-ltb 0 (layer_count d + 1) (omega arith), signal_is i h, accumulator_is i h)

    -- columns that were not taken
    others : (t : ℕ) → t < n → Apart from count t 1 → (between b n e1 t ≡ between b n e0 t) × (past b n e1 t ≡ past b n e0 t)
    unfolding between past column_at
    others t ht outside =
        let s = column_kept all_kept 0 n channels t (λ c hc. let q = row_end c channels n hc in (
          omega (arith, q, ht, room_channels.of_block),
          beside_column 0 n channels from count from (sym (zero-add from)) c t fits.columns_inside ht outside,
          λ o ho. omega (arith, q, ht, room_channels.of_block),
        )) in
        let a = column_kept all_kept (widest_of d * n) n width t (λ c hc. let q = row_end c width n hc in (
          omega (arith, q, ht, room_head.of_block, fits.size_is),
          λ o ho. (let q2 = row_end o channels n ho in omega (arith, q2, room_channels.of_block, fits.columns_inside, fits.size_is)),
          beside_column (widest_of d * n) n width from count (size + from) (omega (arith, fits.size_is)) c t fits.columns_inside ht outside,
        )) in
        (rw (s, a), refl)

    done : TurnDone b n 0 from count e0 e1
    unfolding past_of histories_of positions_of
    done = record {
      memories = memories;
      columns = columns;
      histories_kept = free_as s2.histories_kept (λ i h. omega (arith, h, ap (λ (p : Place). p.histories) first_next, ap (λ (p : Place). p.histories) fits.start_is));
      positions_kept = free_as s2.positions_kept (λ i h. omega (arith, h, ap (λ (p : Place). p.positions) first_next, ap (λ (p : Place). p.positions) fits.start_is));
      before_kept = λ t h. others t (omega (arith, h, fits.columns_inside)) (omega (arith, h));
      after_kept = λ t h l. others t l (omega (arith, h));
    }

  -- its position
  at_0 : get_or p1 (place_at d 0).positions 0 < ring_length sh
  unfolding first_part
  at_0 =
      let before : get_or p0 start.positions 0 < ring_length sh = rw fits.start_is (fits.places.is 0 sh part_is) in
      let room : start.histories + history_count sh ≤ length h0 = rw fits.start_is (part_fits fits 0 sh part_is).1 in
      rw fits.start_is at (place_stays s2 room before)

  own : (i : ℕ) (sh' : Shape) → first_part 0 ≤ i → i < first_part 1 → get_or (parts_of d) i None ≡ Some sh' → get_or p1 (place_at d i).positions 0 < ring_length sh'
  unfolding first_part
  own i sh' lo hi q =
      let z : i ≡ 0 = omega (arith, hi) in
      let same : Some sh ≡ Some sh' = sym part_is ∙ (rw z at q) in
      let e : sh ≡ sh' = cc in
      rw (z, ← e) at_0

  first_is : FirstTurn d weights span h0 p0 w0 h1 p1 w4 input headIn
  first_is = record { by = done; places = placed_on d 0 fits.places (done [] [] []).positions_kept own }

-- the same of a record that is the description's, as the code reads it
pub entry_turn : {d : List ℕ} {weights : List Float} (input headIn : List Float) {span : Span} {start : Place} {h0 h1 : List Float} (w0 w1 w2 w3 w4 : List Float) {p0 p1 : List ℕ} {sh : Shape}
    (a : ArrayRecord) → a ≡ array_of d → StageFits d span 0 start (length weights) (length h0) p0 (length w0) → rechannel_of a ≡ Some sh
    → w1 ≡ rows (2 * span.size) span.count span.count a.input (λ c t. at input (span.from + c * span.n + t)) w0
    → Played sh start weights span.count (2 * span.size) (3 * span.size) (4 * span.size) w1 h0 p0 w2 h1 p1
    → w3 ≡ rows span.from span.n span.count a.channels (λ c t. at w2 (3 * span.size + c * span.count + t)) w2
    → w4 ≡ rows (span.size + span.from) span.n span.count a.head_in (λ c t. at headIn (span.from + c * span.n + t)) w3
    → (past_of start (Some sh) ≡ start_of d 1) × FirstTurn d weights span h0 p0 w0 h1 p1 w4 input headIn
entry_turn {d} {weights} input headIn {span} {start} {h0} {h1} w0 w1 w2 w3 w4 {p0} {p1} {sh} a e fits =
    subst (λ (a : ArrayRecord). rechannel_of a ≡ Some sh
    → w1 ≡ rows (2 * span.size) span.count span.count a.input (λ c t. at input (span.from + c * span.n + t)) w0
    → Played sh start weights span.count (2 * span.size) (3 * span.size) (4 * span.size) w1 h0 p0 w2 h1 p1
    → w3 ≡ rows span.from span.n span.count a.channels (λ c t. at w2 (3 * span.size + c * span.count + t)) w2
    → w4 ≡ rows (span.size + span.from) span.n span.count a.head_in (λ c t. at headIn (span.from + c * span.n + t)) w3
    → (past_of start (Some sh) ≡ start_of d 1) × FirstTurn d weights span h0 p0 w0 h1 p1 w4 input headIn)
    (sym e)
    (λ is s1 s2 s3 s4. (sym (first_next input headIn w0 w1 w2 w3 w4 fits is s1 s2 s3 s4), first_is input headIn w0 w1 w2 w3 w4 fits is s1 s2 s3 s4))

-- the rechannel as a part, and its widths
pub rechannel_part : (d : List ℕ) {a : ArrayRecord} {sh : Shape} → a ≡ array_of d → rechannel_of a ≡ Some sh → get_or (parts_of d) 0 None ≡ Some sh
rechannel_part d e is = part_first d ∙ ap rechannel_of (sym e) ∙ is

pub rechannel_widths : (d : List ℕ) {a : ArrayRecord} {sh : Shape} → refusal_of d ≡ 0 → a ≡ array_of d → rechannel_of a ≡ Some sh
    → (sh.ins ≤ widest_of d) × (sh.outs ≤ widest_of d)
unfolding ins_of outs_of rechannel_of
rechannel_widths d ok e is =
    let i = sym (ap ins_of is) ∙ ap (λ (a : ArrayRecord). a.input) e in
    let o = sym (ap outs_of is) ∙ ap (λ (a : ArrayRecord). a.channels) e in
    (omega (arith, i, array_width_le d ok 0), omega (arith, o, array_width_le d ok 2))

pub entry_at : {d : List ℕ} {span : Span} {start : Place} {nweights nhistories : ℕ} {positions : List ℕ} {nscratch : ℕ} → StageFits d span 0 start nweights nhistories positions nscratch
    → start ≡ place_at d 0
unfolding first_part
entry_at fits = fits.start_is
