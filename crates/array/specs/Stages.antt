-- The stages of an array, and what each does with a column. Document 01, 'The recurrence' (Array) and 'Plans': stage 0 is rechannel, 1..L the layers,
-- L+1 the head rechannel.
use Rattle.std.specs.Prelude.{cond, List, [], ◌∷◌, ℕ, zero, suc, ◌+◌, ◌*◌, ltb, get_or, Float, None}
use Rattle.lists.specs.Tab.{at, tab}
use Rattle.ring.specs.Memory.{Memory}
use Rattle.description.specs.Numbers.{layer_count}
use Rattle.description.specs.Records.{array_of, layer_of}
use Rattle.description.specs.Parts.{parts_of, rechannel_of, head_rechannel_of}
use Rattle.description.specs.Sizes.{place_at}
use Rattle.description.specs.Part.{Part}
use Rattle.slot.specs.View.{weights_in}
use Rattle.slot.specs.Steps.{pushed, convolved}
use Rattle.layer.specs.Column.{after, signal, accumulated}

-- a column on its way: the signal starts as the input and ends as the array output, the accumulator starts as the incoming head and ends as the head
-- output
pub record Column : Type 0 where
  pub signal : List Float
  pub accumulator : List Float
  pub condition : List Float

-- part number i
unfoldable pub part_at : List ℕ → ℕ → Part
part_at d i = get_or (parts_of d) i None

-- the number of the first part of stage k: the rechannel has one, each layer twelve
unfoldable pub first_part : ℕ → ℕ
first_part zero = 0
first_part (suc l) = 1 + 12 * l

-- how many parts stage k has
unfoldable pub part_count : List ℕ → ℕ → ℕ
part_count d zero = 1
part_count d (suc l) = cond (ltb l (layer_count d)) 12 1

abbrev pub stage_count : List ℕ → ℕ
stage_count d = layer_count d + 2

-- memory j of a stage
abbrev pub memory_at : List Memory → ℕ → Memory
memory_at s j = get_or s j (record { history = []; place = 0 })

module _ (d : List ℕ) (weights : List Float) where
  -- the weights of part number i
  unfoldable pub weights_of_part : ℕ → List Float
  weights_of_part i = weights_in (part_at d i) (place_at d i) weights

  -- what stage k, which remembers s, remembers after column v
  unfoldable pub next : ℕ → List Memory → Column → List Memory
  next zero s v = pushed (rechannel_of (array_of d)) (memory_at s 0) (at v.signal) ∷ []
  next (suc l) s v =
      cond (ltb l (layer_count d))
      (after (array_of d) (layer_of d l) (λ j. weights_of_part (1 + 12 * l + j)) (memory_at s) (at v.signal) (at v.condition))
      (pushed (head_rechannel_of (array_of d)) (memory_at s 0) (at v.accumulator) ∷ [])

  unfoldable pub rechannelled : List Memory → Column → Column
  rechannelled s v = record {
    signal = tab (array_of d).channels
        (convolved (rechannel_of (array_of d)) (weights_of_part 0) (pushed (rechannel_of (array_of d)) (memory_at s 0) (at v.signal)));
    accumulator = v.accumulator;
    condition = v.condition;
  }

  unfoldable pub layered : ℕ → List Memory → Column → Column
  layered l s v =
      let a = array_of d in
      let r = layer_of d l in
      record {
        signal = tab a.channels (signal a r (λ j. weights_of_part (1 + 12 * l + j)) (memory_at s) (at v.signal) (at v.condition));
        accumulator = tab a.head_in
            (accumulated a r (λ j. weights_of_part (1 + 12 * l + j)) (memory_at s) (at v.signal) (at v.condition) (at v.accumulator));
        condition = v.condition;
      }

  unfoldable pub headed : List Memory → Column → Column
  headed s v =
      let p = head_rechannel_of (array_of d) in
      record {
        signal = v.signal;
        accumulator = tab (array_of d).head_size
            (convolved p (weights_of_part (1 + 12 * layer_count d)) (pushed p (memory_at s 0) (at v.accumulator)));
        condition = v.condition;
      }

  -- column v as it leaves stage k, which remembered s before it
  unfoldable pub out : ℕ → List Memory → Column → Column
  out zero s v = rechannelled s v
  out (suc l) s v = cond (ltb l (layer_count d)) (layered l s v) (headed s v)
