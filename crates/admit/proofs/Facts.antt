-- The theorems on the check of a call: each of the numbers 6 to 9 is given exactly when its test holds and no lower one, both ways; a single
-- column is a block of one; any two answers agree. Letting.antt says what holds where no number is given. Assumes nothing.
use Rattle.std.specs.Prelude.{Err, Ok}
use mathlib.Core.Path.{◌≡◌, refl, sym, ◌∙◌, ap}
use mathlib.Core.Bool.{Bool, true, false, cond}
use mathlib.Core.List.{List}
use mathlib.Core.Logic.{◌↔◌}
use Prim.Native.Nat.{ℕ, ◌+◌, ◌≤◌, ◌<◌}
use native.Mathlib.Omega.{arith}
use lib.Dec.{eqb}
use borrow.Author.Tests.{eqb-false, eqb-true, ne_eqb, not-false, not-true}
use Rattle.turns.specs.Plan.{keeps_rule}
use Rattle.description.specs.Sizes.{sizes_of}
use Rattle.description.specs.Refusals.{refusal_of}
use Rattle.refusal.specs.declared.Refusal.{Refusal}
use Rattle.refusal.specs.Number.{number, number_of}
use Rattle.refusal.proofs.Named.{named, named_number}
use Rattle.description.specs.declared.answers.Sizes.{Sizes}
use Rattle.description.specs.Checked.{Checked}
use Rattle.description.proofs.Facts.{First, refusal_exactly_when, refusal_most, tests_of}
use Rattle.array.specs.Stages.{stage_count}
use Rattle.array.specs.Lent.{Lent}
use Rattle.array.specs.Refusals.{block_refusal, column_refusal, planned_refusal, refused6, refused7, refused8, refused9}
use Rattle.admit.specs.Admits.{Admits}
use Rattle.admit.proofs.Numbers.{at_most, lower, none, or_else, same, this, ◌then◌}

-- a block
module _ (b : Lent) (n : ℕ) where
  -- the refusals of 1 to 6, and of 1 to 7
  abbrev up_to6 : ℕ
  up_to6 = or_else (eqb (refusal_of b.description) 0) (refusal_of b.description) (refused6 n) 6

  abbrev up_to7 : ℕ
  up_to7 = or_else (eqb up_to6 0) up_to6 (refused7 b n) 7

  block_is : block_refusal b n ≡ or_else (eqb up_to7 0) up_to7 (refused8 b) 8
  unfolding block_refusal
  block_is = refl

  most6 : up_to6 ≤ 6
  most6 = at_most (refusal_of b.description) (refused6 n) 6 (omega (arith, refusal_most b.description))

  most7 : up_to7 ≤ 7
  most7 = at_most up_to6 (refused7 b n) 7 (omega (arith, most6))

  pub block_most : block_refusal b n ≤ 8
  block_most = rw block_is (at_most up_to7 (refused8 b) 8 (omega (arith, most7)))

  none6 : (up_to6 ≡ 0) ↔ (refusal_of b.description ≡ 0) × (refused6 n ≡ false)
  none6 = none (refusal_of b.description) (refused6 n) 6 (omega arith)

  none7 : (up_to7 ≡ 0) ↔ (up_to6 ≡ 0) × (refused7 b n ≡ false)
  none7 = none up_to6 (refused7 b n) 7 (omega arith)

  block_none : (block_refusal b n ≡ 0) ↔ (up_to7 ≡ 0) × (refused8 b ≡ false)
  block_none = rw block_is (none up_to7 (refused8 b) 8 (omega arith))

  -- 1 to 5 exactly when the description is refused so
  pub low_exactly_when : (k : ℕ) → k < 5 → (block_refusal b n ≡ k + 1) ↔ First (tests_of b.description) k
  low_exactly_when k lt =
      rw block_is
      (lower up_to7 (refused8 b) 8 (k + 1) (omega arith) (omega arith)
      then lower up_to6 (refused7 b n) 7 (k + 1) (omega arith) (omega arith)
      then lower (refusal_of b.description) (refused6 n) 6 (k + 1) (omega arith) (omega arith)
      then refusal_exactly_when b.description k)

  -- a description's refusal is the call's
  pub low_refused : (refusal_of b.description ≡ 0 → ⊥) → block_refusal b n ≡ refusal_of b.description
  unfolding block_refusal
  low_refused ne = let e = ne_eqb (refusal_of b.description) 0 ne in rw (e, e, e)

  pub six_exactly_when : (block_refusal b n ≡ 6) ↔ (refusal_of b.description ≡ 0) × (refused6 n ≡ true)
  six_exactly_when =
      rw block_is
      (lower up_to7 (refused8 b) 8 6 (omega arith) (omega arith)
      then lower up_to6 (refused7 b n) 7 6 (omega arith) (omega arith)
      then this (refusal_of b.description) (refused6 n) 6 (omega (arith, refusal_most b.description)))

  pub seven_exactly_when : (block_refusal b n ≡ 7) ↔ (refusal_of b.description ≡ 0) × (refused6 n ≡ false) × (refused7 b n ≡ true)
  seven_exactly_when =
      rw block_is
      (lower up_to7 (refused8 b) 8 7 (omega arith) (omega arith)
      then this up_to6 (refused7 b n) 7 (omega (arith, most6))
      then (λ q. ((none6.0 q.0).0, (none6.0 q.0).1, q.1), λ q. (none6.1 (q.0, q.1), q.2)))

  pub eight_exactly_when : (block_refusal b n ≡ 8)
      ↔ (refusal_of b.description ≡ 0) × (refused6 n ≡ false) × (refused7 b n ≡ false) × (refused8 b ≡ true)
  eight_exactly_when =
      rw block_is
      (this up_to7 (refused8 b) 8 (omega (arith, most7))
      then (
        λ q. let z = none7.0 q.0 in ((none6.0 z.0).0, (none6.0 z.0).1, z.1, q.1),
        λ q. (none7.1 (none6.1 (q.0, q.1), q.2), q.3),
      ))

  pub none_exactly_when : (block_refusal b n ≡ 0)
      ↔ (refusal_of b.description ≡ 0) × (refused6 n ≡ false) × (refused7 b n ≡ false) × (refused8 b ≡ false)
  none_exactly_when =
      block_none
      then (
        λ q. let z = none7.0 q.0 in ((none6.0 z.0).0, (none6.0 z.0).1, z.1, q.1),
        λ q. (none7.1 (none6.1 (q.0, q.1), q.2), q.3),
      )

-- a planned block
module _ (b : Lent) (n : ℕ) (plan : List ℕ) where
  planned_is : planned_refusal b n plan ≡ or_else (eqb (block_refusal b n) 0) (block_refusal b n) (refused9 b n plan) 9
  unfolding planned_refusal
  planned_is = refl

  broken : (refused9 b n plan ≡ true) ↔ (keeps_rule (stage_count b.description) n plan ≡ false)
  unfolding refused9
  broken = (λ e. not-true (keeps_rule (stage_count b.description) n plan) e, λ e. rw e)

  kept : (refused9 b n plan ≡ false) ↔ (keeps_rule (stage_count b.description) n plan ≡ true)
  unfolding refused9
  kept = (λ e. not-false (keeps_rule (stage_count b.description) n plan) e, λ e. rw e)

  -- 1 to 8 exactly when the block is refused so
  pub planned_lower : (m : ℕ) → 0 < m → m < 9 → (planned_refusal b n plan ≡ m) ↔ (block_refusal b n ≡ m)
  planned_lower m p lt = rw planned_is (lower (block_refusal b n) (refused9 b n plan) 9 m p lt)

  pub nine_exactly_when : (planned_refusal b n plan ≡ 9) ↔ (block_refusal b n ≡ 0) × (keeps_rule (stage_count b.description) n plan ≡ false)
  nine_exactly_when =
      rw planned_is
      (this (block_refusal b n) (refused9 b n plan) 9 (omega (arith, block_most b n))
      then (λ q. (q.0, broken.0 q.1), λ q. (q.0, broken.1 q.1)))

  pub planned_none : (planned_refusal b n plan ≡ 0) ↔ (block_refusal b n ≡ 0) × (keeps_rule (stage_count b.description) n plan ≡ true)
  planned_none =
      rw planned_is
      (none (block_refusal b n) (refused9 b n plan) 9 (omega arith) then (λ q. (q.0, kept.0 q.1), λ q. (q.0, kept.1 q.1)))

-- a single column is a block of one: 6 does not arise
pub column_is_block : (b : Lent) → column_refusal b ≡ block_refusal b 1
unfolding column_refusal block_refusal refused6
column_is_block b = rw (same (refusal_of b.description) 6)

-- what the answer has to be
sound_of : {s t : Sizes} → ◌≡◌ {A = Checked} (Ok s) (Ok t) → s ≡ t
sound_of e = cc

never : {refusal : Refusal} {s : Sizes} → ◌≡◌ {A = Checked} (Err refusal) (Ok s) → ⊥
never e = let z : ◌≡◌ {A = ℕ} 0 1 = cc in omega arith

answer_by : (z : Bool) (m : ℕ) (s : Sizes) (r : Checked) → z ≡ eqb m 0 → number_of r ≡ m → (m ≡ 0 → r ≡ Ok s) → r ≡ cond z (Ok s) (Err (named m))
answer_by true m s r e number sound = sound (eqb-true m 0 (sym e))
answer_by false m s (Err k) e number sound = ap Err (sym (named_number k) ∙ ap named number)
answer_by false m s (Ok t) e number sound = absurd (eqb-false m 0 (sym e) (sym number))

module _ {b : Lent} {n : ℕ} where
  pub answer_is : {r : Checked} → Admits b n r → r ≡ cond (eqb (block_refusal b n) 0) (Ok (sizes_of b.description)) (Err (named (block_refusal b n)))
  answer_is {r} a = answer_by (eqb (block_refusal b n) 0) (block_refusal b n) (sizes_of b.description) r refl a.number a.sound

  -- any two answers that meet the contract agree
  pub admits_agree : {r s : Checked} → Admits b n r → Admits b n s → r ≡ s
  admits_agree a c = answer_is a ∙ sym (answer_is c)

  -- sizes are handed back of a call that is not refused, and they are the formulas
  pub sound_only : {s : Sizes} → Admits b n (Ok s) → (block_refusal b n ≡ 0) × (s ≡ sizes_of b.description)
  sound_only a = let z = sym a.number in (z, sound_of (a.sound z))

  pub refused_only : {refusal : Refusal} → Admits b n (Err refusal) → (number refusal ≡ block_refusal b n) × (block_refusal b n ≡ 0 → ⊥)
  refused_only a = (a.number, λ z. never (a.sound z))
