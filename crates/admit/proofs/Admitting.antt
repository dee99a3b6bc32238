-- The ways out of the check of a call, from what its tests told. Assumes nothing.
use Rattle.std.specs.Prelude.{Err, Ok}
use mathlib.Core.Path.{◌≡◌, sym, ◌∙◌, ap, subst}
use mathlib.Core.Bool.{Bool, true, false}
use Prim.Native.Nat.{ℕ, ◌*◌, ◌≤◌, ◌<◌}
use native.Mathlib.Nat.{mul-le-mul}
use native.Mathlib.Omega.{arith}
use lib.ListN.{length}
use borrow.Author.Tests.{eqb-false}
use Rattle.description.specs.Answers.{Answers}
use Rattle.refusal.specs.declared.Refusal.{Refusal}
use Rattle.refusal.specs.declared.Refusal.TheVariants.{BlockSize, BufferLength, Position}
use Rattle.refusal.specs.Number.{number_of}
use Rattle.description.specs.Parts.{parts_of}
use Rattle.description.specs.Records.{array_of}
use Rattle.description.specs.Refusals.{refusal_of}
use Rattle.description.specs.Sizes.{positions_of, sizes_of, total}
use Rattle.description.specs.Checked.{Checked}
use Rattle.description.specs.declared.answers.Sizes.{Sizes}
use Rattle.description.specs.declared.records.ArrayRecord.{ArrayRecord}
use Rattle.description.proofs.Facts.{refused_only, sound_only}
use Rattle.description.proofs.Sound.{widest_most}
use Rattle.array.specs.Lent.{Lent}
use Rattle.array.specs.Refusals.{beyond, block_refusal, refused7, refused8}
use Rattle.admit.specs.Admits.{Admits}
use Rattle.admit.specs.Lengths.{differing}
use Rattle.admit.proofs.Facts.{eight_exactly_when, low_refused, none_exactly_when, seven_exactly_when, six_exactly_when}
use Rattle.admit.proofs.Letting.{few, positions_fit, too_many}

-- no product of a width and a count of columns wraps
pub width_times : (w n : ℕ) → w ≤ 32 → n ≤ 1024 → w * n ≤ 32768
width_times w n h k = mul-le-mul {n₁ = w} {m₁ = n} {n₂ = 32} {m₂ = 1024} h k

pub regions_times : (w n : ℕ) → w ≤ 64 → n ≤ 1024 → 16 * w * n ≤ 1048576
regions_times w n h k =
    mul-le-mul {n₁ = 16 * w} {m₁ = n} {n₂ = 1024} {m₂ = 1024} (mul-le-mul {n₁ = 16} {m₁ = w} {n₂ = 16} {m₂ = 64} (omega arith) h) k

-- a number above 0 is the whole answer
refusing : (b : Lent) (n : ℕ) {r : Checked} → number_of r ≡ block_refusal b n → (block_refusal b n ≡ 0 → ⊥) → Admits b n r
refusing b n e ne = record { number = e; sound = λ z. absurd (ne z) }

module _ (b : Lent) (n : ℕ) {checked : Checked} (answer : Answers b.description checked) where
  -- the description is refused
  pub refused : {refusal : Refusal} → checked ≡ Err refusal → Admits b n (Err refusal)
  refused e =
      let a = refused_only b.description (subst (Answers b.description) e answer) in
      let ne = eqb-false (refusal_of b.description) 0 a.1 in
      let same : block_refusal b n ≡ refusal_of b.description = low_refused b n ne in
      subst (Admits b n) e (refusing b n (answer.number ∙ sym same) (λ z. ne (sym same ∙ z)))

  module _ {s : Sizes} (e : checked ≡ Ok s) where
    pub described : refusal_of b.description ≡ 0
    described = (sound_only b.description (subst (Answers b.description) e answer)).0

    pub sizes_are : s ≡ sizes_of b.description
    sizes_are = (sound_only b.description (subst (Answers b.description) e answer)).1

    pub widest_low : s.widest ≤ 64
    unfolding sizes_of
    widest_low = omega (arith, ap (λ (s : Sizes). s.widest) sizes_are, widest_most b.description described)

    pub many_columns : 1024 < n → Admits b n (Err BlockSize)
    many_columns lt =
        let z : block_refusal b n ≡ 6 = (six_exactly_when b n).1 (described, too_many n lt) in
        refusing b n (sym z) (λ q. omega arith)

    module _ (le : n ≤ 1024) {a : ArrayRecord} (ae : a ≡ array_of b.description) {differ : Bool} (de : differ ≡ differing b a s n) where
      seven_is : differ ≡ refused7 b n
      unfolding refused7 differing
      seven_is =
          de
          ∙ ap (λ (a : ArrayRecord). differing b a s n) ae
          ∙ ap (λ (s : Sizes). differing b (array_of b.description) s n) sizes_are

      pub other_lengths : differ ≡ true → Admits b n (Err BufferLength)
      other_lengths t =
          let z : block_refusal b n ≡ 7 = (seven_exactly_when b n).1 (described, few n le, sym seven_is ∙ t) in
          refusing b n (sym z) (λ q. omega arith)

      module _ (f : differ ≡ false) where
        pub positions_are : length b.positions ≡ total positions_of (parts_of b.description)
        positions_are = positions_fit b n (sym seven_is ∙ f)

        module _ {far : Bool} (fe : far ≡ beyond (parts_of b.description) b.positions) where
          eight_is : far ≡ refused8 b
          unfolding refused8
          eight_is = fe

          pub far_position : far ≡ true → Admits b n (Err Position)
          far_position t =
              let z : block_refusal b n ≡ 8 = (eight_exactly_when b n).1 (described, few n le, sym seven_is ∙ f, sym eight_is ∙ t) in
              refusing b n (sym z) (λ q. omega arith)

          pub done : far ≡ false → Admits b n (Ok s)
          done t =
              record {
                number = sym ((none_exactly_when b n).1 (described, few n le, sym seven_is ∙ f, sym eight_is ∙ t));
                sound = λ z. ap Ok sizes_are;
              }
