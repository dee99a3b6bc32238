-- Text after text on a page, and whole lines: how long they are, and that the calls write them. Assumes nothing.
use mathlib.Core.Path.{◌≡◌, refl, sym, ◌∙◌, ap, subst}
use mathlib.Core.List.{List, [], ◌∷◌, ◌++◌, append_assoc}
use Prim.Native.Nat.{ℕ, ◌+◌, ◌*◌, ◌/◌, ◌%◌, ◌≤◌, ◌<◌}
use native.Mathlib.Numerals.{add-one}
use native.Mathlib.Omega.{arith}
use lib.Ieee.{Float}
use lib.ListN.{length, length-append, take, drop}
use lib.Seq.{length-sets, sets-eq, drop-drop}
use borrow.Rule.Slice.PartMut.{put_mid}
use Rattle.lists.specs.Tab.{at, tab}
use Rattle.lines.specs.Lines.{Printed}
use Rattle.lines.specs.Text.{column_of, decimal_of, line_of, lines_of, named_of, outputs_of, spaced_of, values_text}
use Rattle.lines.proofs.Writing.{decimal_more, decimal_small, length_column, length_values, sets_append, tab_more, ten_places, values_append, values_more}

-- ---- text after text
pub printed_none : (out : List ℕ) (p : ℕ) → p ≤ length out → Printed out p [] p out
printed_none out p h = record { past = omega arith; within = h; is = refl }

pub as_long : {out mid : List ℕ} {p q : ℕ} {x : List ℕ} → Printed out p x q mid → length mid ≡ length out
as_long {out} {p = p} {x = x} a = ap length a.is ∙ length-sets out p x

pub printed_next : {out mid last : List ℕ} {p q r : ℕ} {x y : List ℕ} → Printed out p x q mid → Printed mid q y r last → Printed out p (x ++ y) r last
printed_next {out} {p = p} {x = x} {y} a b =
    record {
      past = omega (arith, length-append x y, a.past, b.past);
      within = omega (arith, b.within, as_long a);
      is = b.is ∙ rw (a.past, a.is) (sets_append out p x y);
    }

-- what is left of the room
pub room_left : {out mid : List ℕ} {p q : ℕ} {x : List ℕ} (n m : ℕ) → p + n ≤ length out → Printed out p x q mid → length x + m ≤ n → q + m ≤ length mid
room_left n m room a fits = omega (arith, as_long a, a.past)

-- the same, as the buffer is called when the page is done with
pub printed_as : {out out' out'' : List ℕ} {p r : ℕ} {text : List ℕ} → Printed out p text r out' → out'' ≡ out' → Printed out p text r out''
printed_as a e = record { past = a.past; within = a.within; is = e ∙ a.is }

-- a part of the buffer that was copied over
pub printed_part : (out : List ℕ) (p : ℕ) (text : List ℕ) {k : ℕ} {part : List ℕ} → p + length text ≤ length out → k ≡ length text → part ≡ text
    → Printed out p text (p + length text) (put_mid p k out part)
printed_part out p text h q e =
    record {
      past = refl;
      within = h;
      is = rw (q, e) (sym (sets-eq text out p h ∙ append_assoc (take p out) text (drop (p + length text) out) ∙ ap (λ r. take p out ++ (text ++ r)) (sym (drop-drop (length text) p out))));
    }

-- ---- one part more: of a rule's bytes, of a column's rows, of a number's digits
module _ {out mid last : List ℕ} {p q r : ℕ} where
  pub rule_more : {b : ℕ} (c : ℕ) (f : ℕ → ℕ) → Printed out p (tab c f) q mid → Printed mid q (b ∷ []) r last → b ≡ f c → Printed out p (tab (c + 1) f) r last
  rule_more c f a b e = rw (add-one c, tab_more c f) (printed_next a (rw e at b))

  pub column_more : (n t c : ℕ) (l : List Float) → Printed out p (values_text (column_of n t c l)) q mid → Printed mid q (spaced_of (at l (c * n + t))) r last
      → Printed out p (values_text (column_of n t (c + 1) l)) r last
  unfolding column_of
  column_more n t c l a b = rw (add-one c, values_more c (λ c. at l (c * n + t))) (printed_next a b)

  pub decimal_last : (n : ℕ) → 10 ≤ n → Printed out p (decimal_of (n / 10)) q mid → Printed mid q ((48 + n % 10) ∷ []) r last → Printed out p (decimal_of n) r last
  decimal_last n h a b = rw (decimal_more n h) (printed_next a b)

-- a byte that an equation tells, as an `if` in the code may pick it
pub byte_is : {out last : List ℕ} {p r : ℕ} (byte told : ℕ) → Printed out p (byte ∷ []) r last → byte ≡ told → Printed out p (told ∷ []) r last
byte_is byte told h is = rw is at h

pub rule_none : (out : List ℕ) (p : ℕ) (f : ℕ → ℕ) → p ≤ length out → Printed out p (tab 0 f) p out
unfolding tab
rule_none out p f h = printed_none out p h

pub column_none : (out : List ℕ) (p n t : ℕ) (l : List Float) → p ≤ length out → Printed out p (values_text (column_of n t 0 l)) p out
unfolding column_of values_text tab
column_none out p n t l h = printed_none out p h

pub decimal_only : {out last : List ℕ} {p r : ℕ} (n : ℕ) → n < 10 → Printed out p ((48 + n % 10) ∷ []) r last → Printed out p (decimal_of n) r last
decimal_only n h b = let e : n % 10 ≡ n = omega arith in rw (decimal_small n h) (rw e at b)

-- ---- a line
pub outputs_length : (n heads : ℕ) (head : List Float) (arrays : ℕ) (array : List Float) (t : ℕ) → length (outputs_of n heads head arrays array t) ≡ heads + arrays
unfolding outputs_of
outputs_length n heads head arrays array t =
    length-append (column_of n t heads head) (column_of n t arrays array) ∙ rw (length_column n t heads head, length_column n t arrays array)

line_length : (index : ℕ) (values : List Float) → length (line_of index values) ≡ length (decimal_of index) + 9 * length values + 1
unfolding line_of
line_length index values =
    length-append (decimal_of index) (values_text values ++ (10 ∷ [])) ∙ omega (arith, length-append (values_text values) (10 ∷ []), length_values values)

line_is : (n heads : ℕ) (head : List Float) (arrays : ℕ) (array : List Float) (t index : ℕ)
    → decimal_of index ++ (values_text (column_of n t heads head) ++ values_text (column_of n t arrays array) ++ (10 ∷ [])) ≡ line_of index (outputs_of n heads head arrays array t)
unfolding line_of outputs_of
line_is n heads head arrays array t index = rw (values_append (column_of n t heads head) (column_of n t arrays array))

joined : (d a b : List ℕ) → ((d ++ a) ++ b) ++ (10 ∷ []) ≡ d ++ (a ++ b ++ (10 ∷ []))
joined d a b = simp append_assoc

module _ (n heads : ℕ) (head : List Float) (arrays : ℕ) (array : List Float) (t index : ℕ) where
  pub line_fits : index < 4294967296 → length (line_of index (outputs_of n heads head arrays array t)) ≤ 9 * (heads + arrays) + 11
  line_fits h = omega (arith, line_length index (outputs_of n heads head arrays array t), outputs_length n heads head arrays array t, ten_places index (omega arith))

  pub index_room : (out : List ℕ) (p : ℕ) → index < 4294967296 → p + (9 * (heads + arrays) + 11) ≤ length out → p + length (decimal_of index) ≤ length out
  index_room out p small room = omega (arith, ten_places index (omega arith))

  module _ {o0 : List ℕ} {p : ℕ} (small : index < 4294967296) (room : p + (9 * (heads + arrays) + 11) ≤ length o0) where
    module _ {o1 : List ℕ} {q : ℕ} (a : Printed o0 p (decimal_of index) q o1) where
      pub head_room : q + (9 * (heads + arrays) + 1) ≤ length o1
      head_room = room_left (9 * (heads + arrays) + 11) (9 * (heads + arrays) + 1) room a (omega (arith, ten_places index (omega arith)))

      module _ {o2 : List ℕ} {r : ℕ} (b : Printed o1 q (values_text (column_of n t heads head)) r o2) where
        pub array_room : r + (9 * arrays + 1) ≤ length o2
        array_room = room_left (9 * (heads + arrays) + 1) (9 * arrays + 1) head_room b (omega (arith, length_values (column_of n t heads head), length_column n t heads head))

        pub end_room : {o3 : List ℕ} {s : ℕ} → Printed o2 r (values_text (column_of n t arrays array)) s o3 → s + 1 ≤ length o3
        end_room c = room_left (9 * arrays + 1) 1 array_room c (omega (arith, length_values (column_of n t arrays array), length_column n t arrays array))

  pub line_done : {o0 o1 o2 o3 o4 : List ℕ} {p q r s e : ℕ} → Printed o0 p (decimal_of index) q o1 → Printed o1 q (values_text (column_of n t heads head)) r o2
      → Printed o2 r (values_text (column_of n t arrays array)) s o3 → Printed o3 s (10 ∷ []) e o4 → Printed o0 p (line_of index (outputs_of n heads head arrays array t)) e o4
  line_done {o0} {o4 = o4} {p} {e = e} a b c d =
      subst (λ text. Printed o0 p text e o4) (joined (decimal_of index) _ _ ∙ line_is n heads head arrays array t index) (printed_next (printed_next (printed_next a b) c) d)

-- ---- the lines of a block
pub lines_none : (first : ℕ) (column : ℕ → List Float) (out : List ℕ) → Printed out 0 (lines_of first column 0) 0 out
unfolding lines_of
lines_none first column out = printed_none out 0 (omega arith)

pub lines_more : {out mid last : List ℕ} {p q r : ℕ} (first : ℕ) (column : ℕ → List Float) (t : ℕ) → Printed out p (lines_of first column t) q mid
    → Printed mid q (line_of (first + t) (column t)) r last → Printed out p (lines_of first column (t + 1)) r last
unfolding lines_of
lines_more first column t a b = rw (add-one t) (printed_next a b)

-- ---- text and a number
pub named_done : (text : List ℕ) (n : ℕ) {o0 o1 o2 o3 : List ℕ} {p q r e : ℕ} → Printed o0 p text q o1 → Printed o1 q (decimal_of n) r o2 → Printed o2 r (10 ∷ []) e o3
    → Printed o0 p (named_of text n) e o3
unfolding named_of
named_done text n {o0} {o3 = o3} {p} {e = e} a b c =
    subst (λ text. Printed o0 p text e o3) (append_assoc text (decimal_of n) (10 ∷ [])) (printed_next (printed_next a b) c)
