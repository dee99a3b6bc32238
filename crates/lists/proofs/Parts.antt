-- A list in parts: what a callee that was lent `&mut xs[a..a + n]` leaves of the parts. Assumes nothing.
use mathlib.Core.Path.{◌≡◌, sym, ◌∙◌, ap}
use mathlib.Core.List.{List, ◌++◌}
use Prim.Native.Nat.{ℕ, suc, ◌+◌, ◌-◌, ◌≤◌, ◌<◌}
use native.Mathlib.Omega.{arith}
use lib.ListN.{length, get_or, take, drop, length-take, length-drop, length-append, get_or-append}
use lib.Seq.{ext_get_or, get_or-take, get_or-drop, length-take-le, get_or-append-add}
use borrow.Rule.Slice.PartMut.{put_mid}
use mathlib.Core.Logic.{⊎_elim}
use Rattle.lists.specs.Part.{part}
use Rattle.lists.specs.Region.{Apart, Free}
use Rattle.lists.proofs.Nums.{le_or_lt}

-- as the code's `&xs[a..e]`, with e = a + n, has it
pub end_start : (a n : ℕ) → a + n - a ≡ n
end_start a n = omega arith

module _ {A : Type 0} where
  pub length_part : (a n : ℕ) (l : List A) → a + n ≤ length l → length (part a n l) ≡ n
  length_part a n l h = simp (length-take, length-drop) (omega arith)

  module _ (a n : ℕ) (xs ys : List A) (in-xs : a + n ≤ length xs) (as_long : length ys ≡ n) where
    length_head : length (take a xs) ≡ a
    length_head = length-take-le a xs (omega arith)

    pub length_put : length (put_mid a n xs ys) ≡ length xs
    length_put = simp (length-append, length-take, length-drop) (omega arith)

module _ {A : Type 0} (d : A) where
  pub at_part : (a n i : ℕ) (l : List A) → i < n → get_or (part a n l) i d ≡ get_or l (a + i) d
  at_part a n i l h = get_or-take n (drop a l) i d h ∙ get_or-drop a l i d

  -- two lists that agree from a to a + n have that part in common
  pub part_eq : (a n : ℕ) (xs ys : List A) → a + n ≤ length xs → a + n ≤ length ys → ((i : ℕ) → i < n → get_or xs (a + i) d ≡ get_or ys (a + i) d) → part a n xs ≡ part a n ys
  part_eq a n xs ys hx hy h =
      let lx = length_part a n xs hx in
      ext_get_or d (part a n xs) (part a n ys) (lx ∙ sym (length_part a n ys hy))
      (λ i lt. at_part a n i xs (omega arith) ∙ h i (omega arith) ∙ sym (at_part a n i ys (omega arith)))

  module _ (a n : ℕ) (xs ys : List A) (in-xs : a + n ≤ length xs) (as_long : length ys ≡ n) where
    at_put_below : (i : ℕ) → i < a → get_or (put_mid a n xs ys) i d ≡ get_or xs i d
    at_put_below i h =
        get_or-append (take a xs) (ys ++ drop n (drop a xs)) d i (rw (length_head a n xs ys in-xs as_long) h) ∙ get_or-take a xs i d h

    pub at_put_in : (t : ℕ) → t < n → get_or (put_mid a n xs ys) (a + t) d ≡ get_or ys t d
    at_put_in t h =
        let e : a + t ≡ length (take a xs) + t = rw (length_head a n xs ys in-xs as_long) in
        rw e (get_or-append-add (take a xs) (ys ++ drop n (drop a xs)) t d) ∙ get_or-append ys (drop n (drop a xs)) d t (omega arith)

    at_put_above : (t : ℕ) → get_or (put_mid a n xs ys) (a + (n + t)) d ≡ get_or xs (a + (n + t)) d
    at_put_above t =
        let e : a + (n + t) ≡ length (take a xs) + (length ys + t) = rw (length_head a n xs ys in-xs as_long, as_long) in
        rw e (get_or-append-add (take a xs) (ys ++ drop n (drop a xs)) (length ys + t) d)
        ∙ get_or-append-add ys (drop n (drop a xs)) t d
        ∙ get_or-drop n (drop a xs) t d
        ∙ get_or-drop a xs (n + t) d

    -- the part put back, and all else kept
    pub part_put : part a n (put_mid a n xs ys) ≡ ys
    part_put =
        let l = length_put a n xs ys in-xs as_long in
        let lp = length_part a n (put_mid a n xs ys) (omega arith) in
        ext_get_or d (part a n (put_mid a n xs ys)) ys (lp ∙ sym as_long)
        (λ i lt. at_part a n i (put_mid a n xs ys) (omega arith) ∙ at_put_in i (omega arith))

    pub put_free : Free d (λ i. Apart a n i 1) xs (put_mid a n xs ys)
    put_free = record {
      long = length_put a n xs ys in-xs as_long;
      is = λ i h.
          ⊎_elim
          (λ (l : suc i ≤ a). at_put_below i l)
          (λ (l : a < suc i).
          let is : i ≡ a + (n + (i - (a + n))) = omega arith in
          ap (λ (k : ℕ). get_or (put_mid a n xs ys) k d) is ∙ at_put_above (i - (a + n)) ∙ ap (λ (k : ℕ). get_or xs k d) (sym is))
          (le_or_lt (suc i) a);
    }

  -- a part that was allowed to stay is the same part
  pub part_free : {P : ℕ → Type 0} {old new : List A} (a n : ℕ) → Free d P old new → ((i : ℕ) → a ≤ i → i < a + n → P i) → a + n ≤ length old → part a n new ≡ part a n old
  part_free {old = old} {new = new} a n f h b =
      let l : length new ≡ length old = f.long in
      part_eq a n new old (omega arith) b (λ i lt. f.is (a + i) (h (a + i) (omega arith) (omega arith)))
