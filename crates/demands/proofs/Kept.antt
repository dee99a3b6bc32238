-- Every step keeps the sizes of what the stages remember. Assumes nothing.
use Rattle.std.specs.Prelude.{None, Some}
use mathlib.Core.Path.{◌∙◌}
use mathlib.Core.Bool.{Bool, true, false, cond}
use mathlib.Core.List.{List, [], ◌∷◌}
use Prim.Native.Nat.{ℕ, zero, suc, ◌+◌, ◌*◌, ◌<◌}
use native.Mathlib.Omega.{arith}
use lib.Dec.{ltb}
use lib.ListN.{get_or}
use lib.Ieee.{Float}
use Rattle.lists.specs.Tab.{at}
use Rattle.lists.proofs.Fill.{length-fill}
use Rattle.ring.specs.Memory.{Memory, push}
use Rattle.turns.specs.Grid.{states_after}
use Rattle.description.specs.Numbers.{layer_count}
use Rattle.description.specs.Records.{array_of, layer_of}
use Rattle.description.specs.Parts.{slots_of, rechannel_of, head_rechannel_of, site_of}
use Rattle.description.specs.declared.records.ArrayRecord.{ArrayRecord}
use Rattle.description.specs.declared.records.LayerRecord.{LayerRecord}
use Rattle.description.specs.Part.{Part}
use Rattle.slot.specs.Steps.{pushed}
use Rattle.layer.specs.Column.{applies, applied_site, site', conv', mixin', layer1x1', head1x1'}
use Rattle.layer.specs.Column as column
use Rattle.array.specs.Stages.{Column, stage_count, memory_at, weights_of_part, next, out}
use Rattle.demands.proofs.Below.{states_keep}
use Rattle.demands.proofs.Fitting.{Fits, AllFit, fit_at}
use Rattle.demands.proofs.StageParts.{stage_parts}
use Rattle.demands.proofs.Sized.{Sized}

pushed_fits : (p : Part) (s : Memory) (x : ℕ → Float) → Fits p s → Fits p (pushed p s x)
unfolding Fits pushed push
pushed_fits None s x h = h
pushed_fits (Some sh) s x h = length-fill _ sh.ins x s.history ∙ h

-- also where the part is not applied
pushed_if : (b : Bool) (p : Part) (s : Memory) (x : ℕ → Float) → Fits p s → Fits p (pushed (cond b p None) s x)
unfolding pushed
pushed_if true p s x h = pushed_fits p s x h
pushed_if false p s x h = h

module _ (a : ArrayRecord) (r : LayerRecord) (weights : ℕ → List Float) (x condition : ℕ → Float) where
  site_fits : (memory : ℕ → Memory) (i : ℕ) → Fits (site_of a r i) (memory (4 + i)) → Fits (site_of a r i) (site' a r weights memory x condition i)
  unfolding site' applied_site
  site_fits memory i h = pushed_if (applies a r i) (site_of a r i) (memory (4 + i)) condition h

  after_fits : (s : List Memory) → AllFit (slots_of a r) s → AllFit (slots_of a r) (column.after a r weights (memory_at s) x condition)
  unfolding AllFit slots_of column.after conv' mixin' layer1x1' head1x1'
  after_fits s fit =
      let f : (j : ℕ) → j < 12 → Fits (get_or (slots_of a r) j None) (memory_at s j) = λ j l. fit_at (slots_of a r) s fit j l in
      let g : (i : ℕ) → Fits (site_of a r i) (memory_at s (4 + i)) → Fits (site_of a r i) (site' a r weights (memory_at s) x condition i) = site_fits (memory_at s) in (
        pushed_fits _ _ _ (f 0 (omega arith)),
        (
          pushed_fits _ _ _ (f 1 (omega arith)),
          (
            pushed_fits _ _ _ (f 2 (omega arith)),
            (
              pushed_fits _ _ _ (f 3 (omega arith)),
              (
                g 0 (f 4 (omega arith)),
                (
                  g 1 (f 5 (omega arith)),
                  (
                    g 2 (f 6 (omega arith)),
                    (
                      g 3 (f 7 (omega arith)),
                      (
                        g 4 (f 8 (omega arith)),
                        (
                          g 5 (f 9 (omega arith)),
                          (
                            g 6 (f 10 (omega arith)),
                            (
                              g 7 (f 11 (omega arith)),
                              tt,
                            ),
                          ),
                        ),
                      ),
                    ),
                  ),
                ),
              ),
            ),
          ),
        ),
      )

one_fits : (p : Part) (s : List Memory) (x : ℕ → Float) → AllFit (p ∷ []) s → AllFit (p ∷ []) (pushed p (memory_at s 0) x ∷ [])
unfolding AllFit
one_fits p s x h = (pushed_fits p (memory_at s 0) x (fit_at (p ∷ []) s h 0 (omega arith)), tt)

module _ (d : List ℕ) (w : List Float) where
  next_fits : (k : ℕ) → k < stage_count d → (s : List Memory) (v : Column) → AllFit (stage_parts d k) s → AllFit (stage_parts d k) (next d w k s v)
  unfolding stage_parts next
  next_fits zero l s v h = one_fits (rechannel_of (array_of d)) s (at v.signal) h
  next_fits (suc k) l s v h = by (ltb k (layer_count d)) h
    where
      by : (b : Bool) → AllFit (cond b (slots_of (array_of d) (layer_of d k)) (head_rechannel_of (array_of d) ∷ [])) s
          → AllFit (cond b (slots_of (array_of d) (layer_of d k)) (head_rechannel_of (array_of d) ∷ []))
          (cond b (column.after (array_of d) (layer_of d k) (λ j. weights_of_part d w (1 + 12 * k + j)) (memory_at s) (at v.signal) (at v.condition))
          (pushed (head_rechannel_of (array_of d)) (memory_at s 0) (at v.accumulator) ∷ []))
      by true h = after_fits (array_of d) (layer_of d k) (λ j. weights_of_part d w (1 + 12 * k + j)) (at v.signal) (at v.condition) s h
      by false h = one_fits (head_rechannel_of (array_of d)) s (at v.accumulator) h

  -- after any columns
  pub after_sized : (columns : List Column) (st : ℕ → List Memory) → Sized d st → Sized d (states_after (next d w) (out d w) st columns)
  after_sized columns st h = states_keep (next d w) (out d w) (stage_count d) (λ k s. AllFit (stage_parts d k) s) next_fits columns st h
