-- Each way out of a call meets its contract: refused, no columns, or all columns played. Assumes nothing.
use Rattle.std.specs.Prelude.{Err, Ok}
use mathlib.Core.Path.{◌≡◌, refl, sym, ◌∙◌, ap, subst}
use mathlib.Core.Bool.{Bool, true, false}
use mathlib.Core.List.{List, [], ◌∷◌}
use Prim.Native.Nat.{ℕ, ◌-◌, ◌*◌, ◌≤◌}
use native.Mathlib.Nat.{mul-zero, sub-zero, mul-le-mul}
use native.Mathlib.Omega.{arith}
use borrow.Author.Tests.{eq-eqb, ne_eqb}
use lib.ListN.{length, take}
use lib.Seq.{length-take-le}
use lib.Ieee.{Float}
use Rattle.lists.specs.Tab.{tab}
use Rattle.turns.specs.Grid.{states_after}
use Rattle.turns.specs.Plan.{keeps_rule}
use Rattle.refusal.specs.declared.Refusal.{Refusal}
use Rattle.refusal.specs.Number.{number}
use Rattle.description.specs.Records.{array_of}
use Rattle.description.specs.Sizes.{sizes_of, widest_of}
use Rattle.description.specs.Checked.{Checked}
use Rattle.description.specs.declared.answers.Sizes.{Sizes}
use Rattle.description.proofs.Sound.{widest_most}
use Rattle.array.specs.Stages.{stage_count}
use Rattle.array.specs.Planar.{columns_in, block_of}
use Rattle.array.specs.Lent.{Lent, Left, with_scratch}
use Rattle.array.specs.Turn.{Changing}
use Rattle.array.specs.Refusals.{block_refusal, column_refusal, planned_refusal}
use Rattle.array.specs.Calls.{states_from, columns_from, brought, histories_played, positions_played, head_played, array_played, Answers}
use Rattle.array.proofs.Views.{histories_are, positions_are}
use Rattle.admit.specs.Admits.{Admits, Admitted}
use Rattle.admit.proofs.Facts.{sound_only, refused_only, planned_none, nine_exactly_when, column_is_block}
use Rattle.admit.proofs.Letting.{admitted}
use Rattle.calls.specs.Fit.{Fit, Done, left_of}

module _ (b : Lent) (n : ℕ) where
  -- refused: the number, and all as it was
  pub refused_as : (q : ℕ) {answer : ℕ} → (q ≡ 0 → ⊥) → answer ≡ q → Answers b n q (left_of answer b.histories b.positions b.head_out b.array_out b.scratch)
  refused_as q ne is = record {
    answer = is;
    histories = rw (ne_eqb q 0 ne);
    positions = rw (ne_eqb q 0 ne);
    head_out = rw (ne_eqb q 0 ne);
    array_out = rw (ne_eqb q 0 ne);
    scratch = rw (ne_eqb q 0 ne);
  }

  -- played
  pub played_as : (q : ℕ) (cut : List Float) {e : Changing} (scratch : List Float) → q ≡ 0
      → Done (with_scratch b cut) n e → Answers b n q (left_of 0 e.histories e.positions e.head_out e.array_out scratch)
  unfolding histories_played positions_played head_played array_played states_from columns_from brought
  played_as q cut scratch z done = record {
    answer = sym z;
    histories = rw (eq-eqb q 0 z) done.histories_are;
    positions = rw (eq-eqb q 0 z) done.positions_are;
    head_out = rw (eq-eqb q 0 z) done.head_is;
    array_out = rw (eq-eqb q 0 z) done.array_is;
    scratch = rw (eq-eqb q 0 z);
  }

-- no columns: nothing changes
empty : {A : Type 0} (l : List A) → length l ≡ 0 → l ≡ []
empty [] e = refl
empty (x ∷ xs) e = absurd (omega (arith, e))

none_of : (w : ℕ) (l : List Float) (column : ℕ → List Float) → length l ≡ w * 0 → l ≡ block_of w 0 column
unfolding block_of tab
none_of w l column long = rw (mul-zero w) (empty l (long ∙ mul-zero w))

module _ (b : Lent) where
  nothing : (q : ℕ) → q ≡ 0 → Admitted b 0 → Answers b 0 q (left_of 0 b.histories b.positions b.head_out b.array_out b.scratch)
  unfolding histories_played positions_played head_played array_played states_from brought columns_in tab states_after sizes_of
  nothing q z fits = record {
    answer = sym z;
    histories = rw (eq-eqb q 0 z) (sym (histories_are b.description b.histories b.positions fits.histories));
    positions = rw (eq-eqb q 0 z) (sym (positions_are b.description b.histories b.positions fits.positions));
    head_out = rw (eq-eqb q 0 z) (none_of (array_of b.description).head_size b.head_out _ fits.head_out);
    array_out = rw (eq-eqb q 0 z) (none_of (array_of b.description).channels b.array_out _ fits.array_out);
    scratch = rw (eq-eqb q 0 z);
  }

  pub nothing_as : (n q : ℕ) → q ≡ 0 → n ≡ 0 → Admitted b n → Answers b n q (left_of 0 b.histories b.positions b.head_out b.array_out b.scratch)
  nothing_as n q z none =
      subst (λ (m : ℕ). Admitted b m → Answers b m q (left_of 0 b.histories b.positions b.head_out b.array_out b.scratch)) (sym none) (nothing q z)

  -- what the loops ask, of a scratch that is cut to sixteen regions
  pub fit_of : (n : ℕ) {size : ℕ} {cut : List Float} → Admitted b n → (n ≡ 0 → ⊥) → size ≡ widest_of b.description * n → length cut ≡ 16 * size → Fit (with_scratch b cut) n size
  fit_of n fits some size_is long = record {
    admitted = record {
      described = fits.described;
      columns = fits.columns;
      weights = fits.weights;
      histories = fits.histories;
      positions = fits.positions;
      input = fits.input;
      condition = fits.condition;
      head_in = fits.head_in;
      head_out = fits.head_out;
      array_out = fits.array_out;
      scratch = omega (arith, long, size_is);
      places = fits.places;
    };
    some = omega (arith, some);
    size_is = size_is;
    scratch_is = long;
  }

  module _ (n : ℕ) {checked : Checked} (answers : Admits b n checked) where
    -- refused by 1 to 8
    pub block_refused : {refusal : Refusal} → checked ≡ Err refusal
        → Answers b n (block_refusal b n) (left_of (number refusal) b.histories b.positions b.head_out b.array_out b.scratch)
    block_refused is =
        let told = refused_only (subst (Admits b n) is answers) in
        refused_as b n (block_refusal b n) told.1 told.0

    pub planned_refused : (plan : List ℕ) {refusal : Refusal} → checked ≡ Err refusal
        → Answers b n (planned_refusal b n plan) (left_of (number refusal) b.histories b.positions b.head_out b.array_out b.scratch)
    unfolding planned_refusal
    planned_refused plan is =
        let told = refused_only (subst (Admits b n) is answers) in
        let ne = told.1 in
        let q : planned_refusal b n plan ≡ block_refusal b n = rw (ne_eqb (block_refusal b n) 0 ne) in
        refused_as b n (planned_refusal b n plan) (λ z. ne (sym q ∙ z)) (told.0 ∙ sym q)

    module _ {s : Sizes} (is : checked ≡ Ok s) where
      pub sound_block : block_refusal b n ≡ 0
      sound_block = (sound_only (subst (Admits b n) is answers)).0

      pub sound_sizes : s ≡ sizes_of b.description
      sound_sizes = (sound_only (subst (Admits b n) is answers)).1

      pub sound_admitted : Admitted b n
      sound_admitted = admitted b n sound_block

      pub widest_is : s.widest ≡ widest_of b.description
      unfolding sizes_of
      widest_is = ap (λ (x : Sizes). x.widest) sound_sizes

      -- refused by 9
      pub plan_refused : (plan : List ℕ) → keeps_rule (stage_count b.description) n plan ≡ false
          → Answers b n (planned_refusal b n plan) (left_of 9 b.histories b.positions b.head_out b.array_out b.scratch)
      plan_refused plan breaks =
          let e = (nine_exactly_when b n plan).1 (sound_block, breaks) in
          refused_as b n (planned_refusal b n plan) (λ z. omega (arith, e, z)) (sym e)

      pub plan_kept : (plan : List ℕ) → keeps_rule (stage_count b.description) n plan ≡ true → planned_refusal b n plan ≡ 0
      plan_kept plan keeps = (planned_none b n plan).1 (sound_block, keeps)

      -- the scratch that is used
      pub size_is : s.widest * n ≡ widest_of b.description * n
      size_is = ap (λ (w : ℕ). w * n) widest_is

      pub size_low : s.widest * n ≤ 65536
      size_low = rw size_is (mul-le-mul {n₁ = widest_of b.description} {n₂ = 64} (widest_most b.description sound_admitted.described) sound_admitted.columns)

      pub used_in : 16 * (s.widest * n) ≤ length b.scratch
      used_in = omega (arith, size_is, sound_admitted.scratch)

-- a list cut to its first numbers
pub cut_long : (used : ℕ) (l : List Float) → used ≤ length l → length (take (used - 0) l) ≡ used
cut_long used l le = rw (sub-zero used) (length-take-le used l le)

-- a single column is a block of one
pub column_as : (b : Lent) {e : Left} → Answers b 1 (block_refusal b 1) e → Answers b 1 (column_refusal b) e
column_as b {e} = subst (λ (q : ℕ). Answers b 1 q e) (sym (column_is_block b))

-- what the plan's check told, of as many stages as there are
pub rule_told : (n : ℕ) (plan : List ℕ) {stages : ℕ} {told v : Bool} (N : ℕ) → stages ≡ N → told ≡ keeps_rule stages n plan → told ≡ v → keeps_rule N n plan ≡ v
rule_told n plan N is e t = ap (λ (k : ℕ). keeps_rule k n plan) (sym is) ∙ sym e ∙ t
