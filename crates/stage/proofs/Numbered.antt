-- A stage's number from what it is. Assumes nothing.
use mathlib.Core.Path.{◌≡◌, refl, sym, ◌∙◌, ap}
use mathlib.Core.Logic.{⊎_elim}
use Prim.Native.Nat.{ℕ, zero, suc, ◌-◌, ◌≤◌, ◌<◌}
use native.Mathlib.Omega.{arith}
use borrow.Author.Tests.{lt-ltb, le-ltb}
use Rattle.lists.proofs.Nums.{le_or_lt}
use Rattle.stage.specs.declared.kind.Stage.{Stage}
use Rattle.stage.specs.declared.kind.Stage.TheVariants.{Rechannel, Layer, HeadRechannel}
use Rattle.stage.specs.Kind.{stage_of}

-- a stage past the first by whether it is a layer
is_layer : (l layers : ℕ) → l < layers → stage_of (suc l) layers ≡ Layer l
unfolding stage_of
is_layer l layers h = rw (lt-ltb l layers h)

is_last : (l layers : ℕ) → layers ≤ l → stage_of (suc l) layers ≡ HeadRechannel
unfolding stage_of
is_last l layers h = rw (le-ltb l layers h)

-- the code's tests
pub first_of : (k layers : ℕ) → k ≡ 0 → Rechannel ≡ stage_of k layers
unfolding stage_of
first_of k layers z = rw z

pub layer_of : (k layers : ℕ) → (k ≡ 0 → ⊥) → k - 1 < layers → Layer (k - 1) ≡ stage_of k layers
layer_of zero layers ne h = absurd (ne refl)
layer_of (suc l) layers ne h =
    let e : suc l - 1 ≡ l = omega arith in
    ap Layer e ∙ sym (is_layer l layers (omega (arith, h, e)))

pub last_of : (k layers : ℕ) → (k ≡ 0 → ⊥) → layers ≤ k - 1 → HeadRechannel ≡ stage_of k layers
last_of zero layers ne h = absurd (ne refl)
last_of (suc l) layers ne h = sym (is_last l layers (omega (arith, h)))

first_last : {B : Type 0} → Rechannel ≡ HeadRechannel → B
first_last e = absurd (let z : ◌≡◌ {A = ℕ} 0 1 = cc in omega arith)

first_layer : {B : Type 0} (l : ℕ) → Rechannel ≡ Layer l → B
first_layer l e = absurd (let z : ◌≡◌ {A = ℕ} 0 1 = cc in omega arith)

layer_last : {B : Type 0} (l : ℕ) → Layer l ≡ HeadRechannel → B
layer_last l e = absurd (let z : ◌≡◌ {A = ℕ} 0 1 = cc in omega arith)

layer_same : (l m : ℕ) → Layer l ≡ Layer m → l ≡ m
layer_same l m e = cc

pub first_is : (k layers : ℕ) {s : Stage} → s ≡ stage_of k layers → s ≡ Rechannel → 0 ≡ k
unfolding stage_of
first_is zero layers e is = refl
first_is (suc l) layers e is =
    ⊎_elim
    (λ (h : layers ≤ l). first_last (sym is ∙ e ∙ is_last l layers h))
    (λ (h : l < layers). first_layer l (sym is ∙ e ∙ is_layer l layers h))
    (le_or_lt layers l)

pub layer_is : (k layers l : ℕ) {s : Stage} → s ≡ stage_of k layers → s ≡ Layer l → (l < layers) × (suc l ≡ k)
unfolding stage_of
layer_is zero layers l e is = first_layer l (sym e ∙ is)
layer_is (suc m) layers l e is =
    ⊎_elim
    (λ (h : layers ≤ m). layer_last l (sym is ∙ e ∙ is_last m layers h))
    (λ (h : m < layers). let same = layer_same l m (sym is ∙ e ∙ is_layer m layers h) in (omega (arith, h, same), ap suc same))
    (le_or_lt layers m)

pub last_is : (k layers : ℕ) {s : Stage} → s ≡ stage_of k layers → s ≡ HeadRechannel → k ≤ suc layers → suc layers ≡ k
unfolding stage_of
last_is zero layers e is le = first_last (sym e ∙ is)
last_is (suc m) layers e is le =
    ⊎_elim
    (λ (h : layers ≤ m). omega (arith, h, le))
    (λ (h : m < layers). layer_last m (sym (is_layer m layers h) ∙ sym e ∙ is))
    (le_or_lt layers m)
