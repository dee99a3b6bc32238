-- Laws on groups that divide both sides. Assumes nothing.
use mathlib.Core.Path.{◌≡◌, sym}
use Prim.Native.Nat.{ℕ, ◌*◌, ◌/◌, ◌%◌, ◌<◌}
use native.Mathlib.Nat.{mul_comm, mul_assoc, mul-zero, div-add-mod, div-eq_of_eq-mul_left, lt_of_not-le}
use native.Mathlib.Decide.{dec_le}
use native.Mathlib.Omega.{arith}
use Rattle.shape.specs.declared.Shape.{Shape}
use Rattle.shape.specs.Counts.{InRange, inputs_per_group, outputs_per_group, kernel_count}
use Rattle.shape.specs.Groups.{Divided}

whole : (n g : ℕ) → n % g ≡ 0 → n ≡ g * (n / g)
whole n g e = let d = div-add-mod n g in omega (arith, e, d)

some : (g n m : ℕ) → m ≡ g * n → 0 < m → 0 < n
some g n m e h =
    elim (dec_le n 0) [
      | yes l ↦ let z : n ≡ 0 = omega arith in absurd (let no : m ≡ 0 = rw (z, mul-zero) at e in omega arith)
      | no l ↦ lt_of_not-le l
    ]

regroup : (a n b k g : ℕ) → n ≡ g * b → a * n * k ≡ a * b * k * g
regroup a n b k g e = rw (e, mul_comm g b) (rw (sym (mul_assoc a b g), mul_assoc (a * b) g k, mul_comm g k) (sym (mul_assoc (a * b) k g)))

module _ {sh : Shape} (d : Divided sh) where
  pub ins_are : sh.ins ≡ sh.groups * inputs_per_group sh
  unfolding inputs_per_group
  ins_are = whole sh.ins sh.groups d.ins_whole

  pub outs_are : sh.outs ≡ sh.groups * outputs_per_group sh
  unfolding outputs_per_group
  outs_are = whole sh.outs sh.groups d.outs_whole

  module _ (f : InRange sh) where
    pub some_in : 0 < inputs_per_group sh
    some_in = some sh.groups (inputs_per_group sh) sh.ins ins_are f.ins_low

    pub some_out : 0 < outputs_per_group sh
    some_out = some sh.groups (outputs_per_group sh) sh.outs outs_are f.outs_low

    -- out x in x kernel / groups, as one output's rows after another
    pub kernel_is : kernel_count sh ≡ sh.outs * inputs_per_group sh * sh.kernel
    unfolding kernel_count
    kernel_is = div-eq_of_eq-mul_left {n = sh.groups} f.groups_low (regroup sh.outs sh.ins (inputs_per_group sh) sh.kernel sh.groups ins_are)
