-- The parts of records in range: each has a shape in range, and the slots are those of the definitions. Assumes nothing.
use Rattle.std.specs.Prelude.{None, Some}
use mathlib.Core.Path.{◌≡◌, refl, sym, ◌∙◌, ap, subst}
use mathlib.Core.Bool.{Bool, true, false, cond}
use mathlib.Core.Logic.{⊎_elim}
use Prim.Native.Nat.{ℕ, zero, suc, ◌+◌, ◌*◌, ◌-◌, ◌/◌, ◌%◌, ◌^◌, ◌≤◌, ◌<◌}
use native.Mathlib.Nat.{eq-zero-or-pos, mod-lt, mul-le-mul}
use native.Mathlib.Omega.{arith}
use lib.Dec.{eqb}
use borrow.Author.Tests.{eq-eqb, ne_eqb}
use Rattle.shape.specs.declared.Shape.{Shape}
use Rattle.shape.specs.Counts.{InRange}
use Rattle.gating.specs.declared.Mode.{Mode}
use Rattle.gating.specs.declared.Mode.TheVariants.{None, Gated, Blended}
use Rattle.gating.specs.Joined.{input_rows}
use Rattle.description.specs.Parts.{conv_of, head1x1_of, head_rechannel_of, layer1x1_of, mid, mixin_of, part_of, pointwise, rechannel_of, site_groups, site_of, site_width, slots_of, unless0}
use Rattle.description.specs.Ranges.{ArrayRanges, Between, Fits, LayerRanges}
use Rattle.description.specs.ZeroRules.{bit}
use Rattle.description.specs.declared.records.ArrayRecord.{ArrayRecord}
use Rattle.description.specs.declared.records.LayerRecord.{LayerRecord}

pub shape_of : {s t : Shape} → Some s ≡ Some t → s ≡ t
shape_of e = cc

pub not_absent : {P : Type 0} {t : Shape} → None ≡ Some t → P
not_absent e = absurd (let z : ◌≡◌ {A = ℕ} 0 1 = cc in omega arith)

pub fits_there : {s : Shape} → InRange s → Fits (Some s)
fits_there f = record { shape = λ sh e. subst InRange (shape_of e) f }

pub fits_absent : Fits None
fits_absent = record { shape = λ sh e. not_absent e }

fits_unless0 : (n : ℕ) (s : Shape) → (1 ≤ n → InRange s) → Fits (unless0 n s)
unfolding unless0
fits_unless0 n s h =
    ⊎_elim (λ z. rw (eq-eqb n 0 z) fits_absent) (λ p. rw (ne_eqb n 0 (λ z. omega arith)) (fits_there (h p))) (eq-zero-or-pos n)

-- a shape of kernel 1
pointwise_range : (ins outs groups : ℕ) (b : Bool) → Between 1 128 ins → Between 1 128 outs → Between 1 32 groups → InRange (pointwise ins outs groups b)
pointwise_range ins outs groups b i o g =
    record {
      ins_low = i.least;
      ins_high = i.most;
      outs_low = o.least;
      outs_high = o.most;
      kernel_low = omega arith;
      kernel_high = omega arith;
      dilation_low = omega arith;
      dilation_high = omega arith;
      groups_low = g.least;
      groups_high = g.most;
    }

mid-rows_range : (m : Mode) (n : ℕ) → Between 1 32 n → Between 1 64 (input_rows m n)
unfolding input_rows
mid-rows_range None n b = record { least = b.least; most = omega arith }
mid-rows_range Gated n b = record { least = omega arith; most = omega arith }
mid-rows_range Blended n b = record { least = omega arith; most = omega arith }

-- 1, and 1 more where the bit is set
pub one_or_two : (b : ℕ) → b < 2 → 1 + b ≡ cond (eqb b 1) 2 1
one_or_two zero lt = refl
one_or_two (suc zero) lt = refl
one_or_two (suc (suc b)) lt = absurd (omega arith)

twice_range : (n : ℕ) (b : Bool) → Between 1 64 n → Between 1 128 (n * cond b 2 1)
twice_range n true h = record { least = omega arith; most = omega arith }
twice_range n false h = record { least = omega arith; most = omega arith }

module _ {a : ArrayRecord} {r : LayerRecord} (fa : ArrayRanges a) (fr : LayerRanges r) where
  pub mid_range : Between 1 64 (mid r)
  unfolding mid
  mid_range = mid-rows_range r.mode r.bottleneck fr.bottleneck

  wide : {n : ℕ} → Between 1 32 n → Between 1 64 n
  wide b = record { least = b.least; most = omega arith }

  wider : {n : ℕ} → Between 1 64 n → Between 1 128 n
  wider b = record { least = b.least; most = omega arith }

  last_range : (n : ℕ) → n ≤ 32 → Between 1 64 (cond (eqb n 0) a.channels n)
  last_range n h =
      ⊎_elim (λ z. rw (eq-eqb n 0 z) (wide fa.channels)) (λ p. rw (ne_eqb n 0 (λ z. omega arith)) (record { least = p; most = omega arith }))
      (eq-zero-or-pos n)

  pub site_width_range : (i : ℕ) → i < 8 → Between 1 64 (site_width a r i)
  unfolding site_width
  site_width_range zero lt = wide fa.channels
  site_width_range (suc zero) lt = mid_range
  site_width_range (suc (suc zero)) lt = wide fa.condition
  site_width_range (suc (suc (suc zero))) lt = mid_range
  site_width_range (suc (suc (suc (suc zero)))) lt = mid_range
  site_width_range (suc (suc (suc (suc (suc zero))))) lt = wide fr.bottleneck
  site_width_range (suc (suc (suc (suc (suc (suc zero)))))) lt = wide fa.channels
  site_width_range (suc (suc (suc (suc (suc (suc (suc zero))))))) lt = last_range r.head1x1_width fr.head1x1_width
  site_width_range (suc (suc (suc (suc (suc (suc (suc (suc i)))))))) lt = absurd (omega arith)

  site_fits : (i : ℕ) → i < 8 → Fits (site_of a r i)
  unfolding site_of
  site_fits i lt =
      fits_unless0 (site_groups r.sites i) _
      (λ p.
      pointwise_range a.condition (site_width a r i * cond (bit r.shift_bits i) 2 1) (site_groups r.sites i) true
      (wider (wide fa.condition))
      (twice_range (site_width a r i) (bit r.shift_bits i) (site_width_range i lt))
      (record { least = p; most = fr.site_groups_in i }))

  -- each slot of a layer
  pub slot_fits : (k : ℕ) → Fits (part_of a r k)
  unfolding part_of slots_of conv_of mixin_of layer1x1_of head1x1_of
  slot_fits zero =
      fits_there
      (record {
        ins_low = fa.channels.least;
        ins_high = omega (arith, fa.channels.most);
        outs_low = mid_range.least;
        outs_high = omega (arith, mid_range.most);
        kernel_low = fr.kernel.least;
        kernel_high = fr.kernel.most;
        dilation_low = fr.dilation.least;
        dilation_high = fr.dilation.most;
        groups_low = fr.conv_groups.least;
        groups_high = fr.conv_groups.most;
      })
  slot_fits (suc zero) = fits_there (pointwise_range _ _ _ _ (wider (wide fa.condition)) (wider mid_range) fr.mixin_groups)
  slot_fits (suc (suc zero)) =
      fits_unless0 r.layer1x1_groups _
      (λ p. pointwise_range _ _ _ _ (wider (wide fr.bottleneck)) (wider (wide fa.channels)) (record { least = p; most = fr.layer1x1_groups }))
  slot_fits (suc (suc (suc zero))) =
      fits_unless0 r.head1x1_width _
      (λ p.
      pointwise_range _ _ _ _ (wider (wide fr.bottleneck)) (record { least = p; most = omega (arith, fr.head1x1_width) })
      (record { least = fr.head1x1_there p; most = fr.head1x1_groups }))
  slot_fits (suc (suc (suc (suc zero)))) = site_fits 0 (omega arith)
  slot_fits (suc (suc (suc (suc (suc zero))))) = site_fits 1 (omega arith)
  slot_fits (suc (suc (suc (suc (suc (suc zero)))))) = site_fits 2 (omega arith)
  slot_fits (suc (suc (suc (suc (suc (suc (suc zero))))))) = site_fits 3 (omega arith)
  slot_fits (suc (suc (suc (suc (suc (suc (suc (suc zero)))))))) = site_fits 4 (omega arith)
  slot_fits (suc (suc (suc (suc (suc (suc (suc (suc (suc zero))))))))) = site_fits 5 (omega arith)
  slot_fits (suc (suc (suc (suc (suc (suc (suc (suc (suc (suc zero)))))))))) = site_fits 6 (omega arith)
  slot_fits (suc (suc (suc (suc (suc (suc (suc (suc (suc (suc (suc zero))))))))))) = site_fits 7 (omega arith)
  slot_fits (suc (suc (suc (suc (suc (suc (suc (suc (suc (suc (suc (suc k)))))))))))) = fits_absent

module _ {a : ArrayRecord} (fa : ArrayRanges a) where
  pub rechannel_fits : Fits (rechannel_of a)
  unfolding rechannel_of
  rechannel_fits =
      fits_there
      (pointwise_range _ _ _ _
      (record { least = fa.input.least; most = omega (arith, fa.input.most) })
      (record { least = fa.channels.least; most = omega (arith, fa.channels.most) })
      (record { least = omega arith; most = omega arith }))

  pub head_rechannel_fits : Fits (head_rechannel_of a)
  unfolding head_rechannel_of
  head_rechannel_fits =
      fits_there
      (record {
        ins_low = fa.head_in.least;
        ins_high = omega (arith, fa.head_in.most);
        outs_low = fa.head_size.least;
        outs_high = omega (arith, fa.head_size.most);
        kernel_low = fa.head_kernel.least;
        kernel_high = fa.head_kernel.most;
        dilation_low = omega arith;
        dilation_high = omega arith;
        groups_low = omega arith;
        groups_high = omega arith;
      })

-- the sites are the slots from 4 on
site_slot : (a : ArrayRecord) (r : LayerRecord) (i : ℕ) → i < 8 → part_of a r (4 + i) ≡ site_of a r i
unfolding part_of slots_of
site_slot a r zero lt = refl
site_slot a r (suc zero) lt = refl
site_slot a r (suc (suc zero)) lt = refl
site_slot a r (suc (suc (suc zero))) lt = refl
site_slot a r (suc (suc (suc (suc zero)))) lt = refl
site_slot a r (suc (suc (suc (suc (suc zero))))) lt = refl
site_slot a r (suc (suc (suc (suc (suc (suc zero)))))) lt = refl
site_slot a r (suc (suc (suc (suc (suc (suc (suc zero))))))) lt = refl
site_slot a r (suc (suc (suc (suc (suc (suc (suc (suc i)))))))) lt = absurd (omega arith)

pub slot_site : (a : ArrayRecord) (r : LayerRecord) (k : ℕ) → 4 ≤ k → k < 12 → site_of a r (k - 4) ≡ part_of a r k
slot_site a r k le lt =
    let e : 4 + (k - 4) ≡ k = omega arith in sym (site_slot a r (k - 4) (omega arith)) ∙ ap (part_of a r) e

-- scales, and as many shifts where the bit is set
pub doubled_le : (w x : ℕ) → w ≤ 64 → w * (1 + x % 2) ≤ 128
doubled_le w x h = mul-le-mul {n₁ = w} {m₁ = 1 + x % 2} {n₂ = 64} {m₂ = 2} h (omega (arith, mod-lt x {m = 2} (omega arith)))

pub site_there : (a : ArrayRecord) (r : LayerRecord) (i g w : ℕ) → g ≡ site_groups r.sites i → (g ≡ 0 → ⊥) → w ≡ site_width a r i
    → Some (pointwise a.condition (w * (1 + r.shift_bits / 2 ^ i % 2)) g true) ≡ site_of a r i
unfolding site_of unless0
site_there a r i g w eg ne ew =
    rw (ne_eqb (site_groups r.sites i) 0 (λ z. ne (eg ∙ z)), eg, ew, one_or_two (r.shift_bits / 2 ^ i % 2) (mod-lt _ {m = 2} (omega arith)))
