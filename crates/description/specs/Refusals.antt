-- The refusal numbers 1 to 5: "given exactly when". Each test presumes the lower ones passed. Document 01, 'Refusal numbers'.
use Rattle.std.specs.Prelude.{List, Bool, cond, not, ◌&&◌, ◌||◌, ℕ, eqb, ltb, length}
use Rattle.description.specs.Numbers.{head_length, layer_count, record_at}
use Rattle.description.specs.Tests.{any, any_below}
use Rattle.description.specs.Limits.{array_limits, breaks_range, layer_limits}
use Rattle.description.specs.ZeroRules.{breaks_zero_rule}
use Rattle.description.specs.Records.{array_of, layer_of}
use Rattle.description.specs.Parts.{parts_of, uneven_of}
use Rattle.description.specs.Sizes.{histories_of, total, weights_of}
use Rattle.description.specs.declared.records.ArrayRecord.{ArrayRecord}
use Rattle.description.specs.declared.records.LayerRecord.{LayerRecord}

-- 1: description shorter than 8, or not 8 + 24L long
unfoldable pub refused1 : List ℕ → Bool
refused1 d = ltb (length d) head_length || not (eqb (length d) (record_at (layer_count d)))

-- a number of layer l breaks its range or its zero rule
unfoldable pub breaks_layer : List ℕ → ℕ → Bool
breaks_layer d l = breaks_range layer_limits d (record_at l) || breaks_zero_rule d (record_at l)

-- 2: a number breaks its range or its zero rule
unfoldable pub refused2 : List ℕ → Bool
refused2 d = breaks_range array_limits d 0 || any_below (layer_count d) (breaks_layer d)

-- 3: groups don't divide
unfoldable pub refused3 : List ℕ → Bool
refused3 d = any uneven_of (parts_of d)

-- head1x1 width, else bottleneck
unfoldable pub head_width : LayerRecord → ℕ
head_width r = cond (eqb r.head1x1_width 0) r.bottleneck r.head1x1_width

-- layer1x1 absent and bottleneck differs from channels; or a layer's head width differs from head-in
unfoldable pub unmatched_of : ArrayRecord → LayerRecord → Bool
unmatched_of a r = eqb r.layer1x1_groups 0 && not (eqb r.bottleneck a.channels) || not (eqb (head_width r) a.head_in)

-- 4: such a layer
unfoldable pub refused4 : List ℕ → Bool
refused4 d = any_below (layer_count d) (λ l. unmatched_of (array_of d) (layer_of d l))

abbrev pub most : ℕ
most = 1048576

-- 5: weights or histories exceed 1,048,576 numbers
unfoldable pub refused5 : List ℕ → Bool
refused5 d = ltb most (total weights_of (parts_of d)) || ltb most (total histories_of (parts_of d))

-- the lowest applicable number, 0 where there is none
unfoldable pub refusal_of : List ℕ → ℕ
refusal_of d = cond (refused1 d) 1 (cond (refused2 d) 2 (cond (refused3 d) 3 (cond (refused4 d) 4 (cond (refused5 d) 5 0))))
