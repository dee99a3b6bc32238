-- A buffer split in two, some rows of one half filled from the other, and joined again. Assumes nothing.
use mathlib.Core.Path.{◌≡◌, refl, sym, ◌∙◌}
use mathlib.Core.List.{List, ◌++◌}
use Prim.Native.Nat.{ℕ, zero, suc, ◌+◌, ◌-◌, ◌*◌, ◌≤◌}
use native.Mathlib.Nat.{suc-mul, zero-add}
use native.Mathlib.Omega.{arith}
use lib.ListN.{length, get_or-append}
use lib.Seq.{get_or-append-add}
use lib.Ieee.{Float, nan}
use Rattle.std.proofs.lemmas.List.{set-append_left, set-append_right}
use Rattle.lists.specs.Tab.{at, fill, rows}
use Rattle.lists.proofs.Nums.{row_end}
use Rattle.lists.proofs.Fill.{length-fill}
use Rattle.lists.proofs.Rows.{rows_ext, length-rows}

module _ {A : Type 0} where
  fill_front : (xs ys : List A) (a n : ℕ) (f : ℕ → A) → a + n ≤ length xs → fill a n f (xs ++ ys) ≡ fill a n f xs ++ ys
  unfolding fill
  fill_front xs ys a zero f h = refl
  fill_front xs ys a (suc n) f h =
      rw (fill_front xs ys a n f (omega arith)) (set-append_left (fill a n f xs) ys (a + n) (f n) (rw length-fill (omega arith)))

  fill_back : (xs ys : List A) (k a n : ℕ) (f : ℕ → A) → length xs ≡ k → fill (k + a) n f (xs ++ ys) ≡ xs ++ fill a n f ys
  unfolding fill
  fill_back xs ys k a zero f h = refl
  fill_back xs ys k a (suc n) f h =
      let e : k + a + n - k ≡ a + n = omega arith in
      rw (fill_back xs ys k a n f h, set-append_right xs (fill a n f ys) k (k + a + n) (f n) h (omega arith), e)

  rows_front : (xs ys : List A) (a s m w : ℕ) (g : ℕ → ℕ → A) → a + m + w * s ≤ length xs + s → m ≤ s → rows a s m w g (xs ++ ys) ≡ rows a s m w g xs ++ ys
  unfolding rows
  rows_front xs ys a s m zero g h q = refl
  rows_front xs ys a s m (suc w) g h q =
      rw (rows_front xs ys a s m w g (omega (arith, h, q, suc-mul w s)) q)
      (fill_front (rows a s m w g xs) ys (a + w * s) m (g w) (omega (arith, h, suc-mul w s, length-rows a s m w g xs)))

  rows_back : (xs ys : List A) (k s m w : ℕ) (g : ℕ → ℕ → A) → length xs ≡ k → rows k s m w g (xs ++ ys) ≡ xs ++ rows 0 s m w g ys
  unfolding rows
  rows_back xs ys k s m zero g h = refl
  rows_back xs ys k s m (suc w) g h = rw (rows_back xs ys k s m w g h, zero-add) (fill_back xs (rows 0 s m w g ys) k (w * s) m (g w) h)

-- the front's rows filled from the back
pub front_filled : (to s m from n w : ℕ) (front back old new : List Float) → old ≡ front ++ back → length front ≡ from → to + m + w * s ≤ from + s → m ≤ s
    → new ≡ rows to s m w (λ c t. at back (0 + c * n + t)) front → new ++ back ≡ rows to s m w (λ c t. at old (from + c * n + t)) old
front_filled to s m from n w front back old new e l h q is =
    rw (is, e)
    (sym (rows_front front back to s m w _ (omega (arith, h, l)) q)
    ∙ rows_ext to s m w _ _ (front ++ back)
    (λ c t _ _.
    let i : from + c * n + t ≡ length front + (0 + c * n + t) = omega (arith, l) in
    sym (rw i (get_or-append-add front back (0 + c * n + t) nan))))

-- the back's rows filled from the front
pub back_filled : (to s m from n w : ℕ) (front back old new : List Float) → old ≡ front ++ back → length front ≡ to → from + m + w * n ≤ to + n → m ≤ n
    → new ≡ rows 0 s m w (λ c t. at front (from + c * n + t)) back → front ++ new ≡ rows to s m w (λ c t. at old (from + c * n + t)) old
back_filled to s m from n w front back old new e l h q is =
    rw (is, e)
    (sym (rows_back front back to s m w _ l)
    ∙ rows_ext to s m w _ _ (front ++ back)
    (λ c t hc ht. sym (get_or-append front back nan (from + c * n + t) (omega (arith, l, h, q, ht, row_end c w n hc)))))

-- the same where equations tell the two places, and how far apart the source's rows are: an `if` in the code may pick them
pub front_told : (to from n p q k s m w : ℕ) (front back old new : List Float) → old ≡ front ++ back → length front ≡ q → p + m + w * s ≤ q + s → m ≤ s
    → new ≡ rows p s m w (λ c t. at back (0 + c * k + t)) front → p ≡ to → q ≡ from → k ≡ n
    → new ++ back ≡ rows to s m w (λ c t. at old (from + c * n + t)) old
front_told to from n p q k s m w front back old new e l h le is a b d = rw (a, b, d) at (front_filled p s m q k w front back old new e l h le is)

pub back_told : (to from n p q k s m w : ℕ) (front back old new : List Float) → old ≡ front ++ back → length front ≡ p → q + m + w * k ≤ p + k → m ≤ k
    → new ≡ rows 0 s m w (λ c t. at front (q + c * k + t)) back → p ≡ to → q ≡ from → k ≡ n
    → front ++ new ≡ rows to s m w (λ c t. at old (from + c * n + t)) old
back_told to from n p q k s m w front back old new e l h le is a b d = rw (a, b, d) at (back_filled p s m q k w front back old new e l h le is)
