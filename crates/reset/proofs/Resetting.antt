-- The record of a reset, from what its tests told. Assumes nothing.
use Rattle.std.specs.Prelude.{Err, Ok}
use mathlib.Core.Path.{◌≡◌, refl, sym, ◌∙◌, ap, subst}
use mathlib.Core.Bool.{true, not, or-true}
use mathlib.Core.List.{List}
use Prim.Native.Nat.{ℕ}
use lib.Dec.{eqb}
use lib.ListN.{length}
use lib.Ieee.{Float}
use borrow.Author.Tests.{eq-eqb, ne_eqb}
use Rattle.description.specs.Answers.{Answers}
use Rattle.refusal.specs.declared.Refusal.{Refusal}
use Rattle.refusal.specs.Number.{number}
use Rattle.description.specs.Parts.{parts_of}
use Rattle.description.specs.Refusals.{refusal_of}
use Rattle.description.specs.Sizes.{histories_of, positions_of, sizes_of, total}
use Rattle.description.specs.Checked.{Checked}
use Rattle.description.specs.declared.answers.Sizes.{Sizes}
use Rattle.description.proofs.Facts.{refused_only, sound_only}
use Rattle.reset.specs.Resets.{Resets, refused7, reset_number, silence_of, starts_of}

module _ (d : List ℕ) (histories : List Float) (positions : List ℕ) {checked : Checked} (answer : Answers d checked) where
  -- the description is refused
  pub refused : {refusal : Refusal} → checked ≡ Err refusal → Resets d histories positions (number refusal) histories positions
  unfolding reset_number
  refused e =
      let a = refused_only d (subst (Answers d) e answer) in
      record { number = rw a.1 a.0; silent = rw (a.0, a.1); rewound = rw (a.0, a.1) }

  module _ {s : Sizes} (e : checked ≡ Ok s) where
    sizes_is : (refusal_of d ≡ 0) × (s ≡ sizes_of d)
    sizes_is = sound_only d (subst (Answers d) e answer)

    histories_are : s.histories ≡ total histories_of (parts_of d)
    unfolding sizes_of
    histories_are = ap (λ (s : Sizes). s.histories) sizes_is.1

    positions_are : s.positions ≡ total positions_of (parts_of d)
    unfolding sizes_of
    positions_are = ap (λ (s : Sizes). s.positions) sizes_is.1

    -- a buffer has another length than its size
    mislaid : refused7 d (length histories) (length positions) ≡ true → Resets d histories positions 7 histories positions
    unfolding reset_number
    mislaid h = record { number = rw (eq-eqb (refusal_of d) 0 sizes_is.0, h); silent = refl; rewound = refl }

    pub other_histories : (length histories ≡ s.histories → ⊥) → Resets d histories positions 7 histories positions
    unfolding refused7
    other_histories ne = mislaid (rw (ne_eqb (length histories) (total histories_of (parts_of d)) (λ h. ne (h ∙ sym histories_are))))

    pub other_positions : (length positions ≡ s.positions → ⊥) → Resets d histories positions 7 histories positions
    unfolding refused7
    other_positions ne = mislaid (rw (ne_eqb (length positions) (total positions_of (parts_of d)) (λ h. ne (h ∙ sym positions_are)))
        (or-true (not (eqb (length histories) (total histories_of (parts_of d))))))

    -- every buffer is as long as its size
    module _ (h : length histories ≡ s.histories) (p : length positions ≡ s.positions) where
      pub positions_fit : length positions ≡ total positions_of (parts_of d)
      positions_fit = p ∙ positions_are

      pub passed : refusal_of d ≡ 0
      passed = sizes_is.0

      pub done : {histories' : List Float} {positions' : List ℕ} → histories' ≡ silence_of (length histories) → positions' ≡ starts_of (parts_of d)
          → Resets d histories positions 0 histories' positions'
      unfolding reset_number refused7
      done silent rewound =
          record {
            number =
                rw (
                  eq-eqb (refusal_of d) 0 sizes_is.0,
                  eq-eqb (length histories) (total histories_of (parts_of d)) (h ∙ histories_are),
                  eq-eqb (length positions) (total positions_of (parts_of d)) (p ∙ positions_are),
                );
            silent = silent ∙ ap silence_of (h ∙ histories_are);
            rewound = rewound;
          }
