-- The copies around a layer: what they ask, and what they do. A layer works on compact columns, in regions of scratch from 2 on; regions 0 and 1 hold the
-- block's signal and accumulator.
use Rattle.std.specs.Prelude.{◌≡◌, List, ℕ, ◌+◌, ◌*◌, ◌≤◌, ◌<◌, Float}
use Rattle.std.specs.Float.{nan}
use Rattle.lists.specs.Tab.{at}
use Rattle.lists.specs.Region.{Holds, Strip, Beside, Free}
use Rattle.description.specs.declared.records.ArrayRecord.{ArrayRecord}
use Rattle.stage.specs.declared.span.Span.{Span}

pub record CopyFits (a : ArrayRecord) (span : Span) (nscratch : ℕ) : Type 0 where
  pub columns_inside : span.from + span.count ≤ span.n
  pub from_in : span.from ≤ span.size
  pub small : span.size ≤ 65536
  pub long : nscratch ≡ 16 * span.size
  pub channels_in : a.channels * span.n ≤ span.size
  pub channels_turn : a.channels * span.count ≤ span.size
  pub head_in : a.head_in * span.n ≤ span.size
  pub head_turn : a.head_in * span.count ≤ span.size
  pub condition_turn : a.condition * span.count ≤ span.size

-- the span's columns: signal from region 0 to 2, condition to 3, accumulator from region 1 to 4
pub record Brought (a : ArrayRecord) (span : Span) (condition-block work work' : List Float) : Type 0 where
  pub signal : Holds (2 * span.size) a.channels span.count (λ o t. at work (span.from + o * span.n + t)) work'
  pub condition : Holds (3 * span.size) a.condition span.count (λ o t. at condition-block (span.from + o * span.n + t)) work'
  pub accumulator : Holds (4 * span.size) a.head_in span.count (λ o t. at work (span.size + span.from + o * span.n + t)) work'
  pub kept : Free nan (λ i. i < 2 * span.size) work work'

-- the way back: signal from `result` to region 0, accumulator from region 4 to 1
pub record HandedOn (a : ArrayRecord) (span : Span) (result : ℕ) (work work' : List Float) : Type 0 where
  pub signal : Strip span.from span.n a.channels span.count (λ o t. at work (result + o * span.count + t)) work'
  pub accumulator : Strip (span.size + span.from) span.n a.head_in span.count (λ o t. at work (4 * span.size + o * span.count + t)) work'
  pub kept : Free nan (λ i. Beside span.from span.n a.channels span.count i × Beside (span.size + span.from) span.n a.head_in span.count i) work work'
