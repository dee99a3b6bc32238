-- One turn of the array: a stage's next columns. Document 01, 'Plans': on the stage's next count columns its results, histories and positions are the
-- recurrence's for that stage; the histories and positions of all other stages, and the signal, accumulator and outputs of all other columns, are what
-- they were.
use Rattle.std.specs.Prelude.{◌≡◌, cond, List, ℕ, zero, suc, ◌+◌, ◌-◌, ◌*◌, ◌≤◌, ◌<◌, ltb, Float}
use Rattle.std.specs.Float.{nan}
use Rattle.lists.specs.Tab.{at, tab}
use Rattle.lists.specs.Region.{Apart, Free}
use Rattle.ring.specs.Memory.{Memory}
use Rattle.turns.specs.Turn.{Standing, run_from}
use Rattle.description.specs.Numbers.{layer_count}
use Rattle.description.specs.Records.{array_of}
use Rattle.description.specs.Sizes.{place_at, widest_of}
use Rattle.description.specs.declared.places.Place.{Place}
use Rattle.array.specs.Stages.{Column, first_part, stage_count, next, out}
use Rattle.array.specs.Memories.{memories_of}
use Rattle.array.specs.Planar.{column_in}
use Rattle.array.specs.Lent.{Given, Lent}

-- the buffers that turns change
pub record Changing : Type 0 where
  pub histories : List Float
  pub positions : List ℕ
  pub head_out : List Float
  pub array_out : List Float
  pub scratch : List Float

abbrev pub changing : Lent → Changing
changing b = record { histories = b.histories; positions = b.positions; head_out = b.head_out; array_out = b.array_out; scratch = b.scratch }

-- where stage k's numbers start
abbrev pub start_of : List ℕ → ℕ → Place
start_of d k = place_at d (first_part k)

-- a place outside of stage k's histories, and of its positions
abbrev pub OutsideHistories : List ℕ → ℕ → ℕ → Type 0
OutsideHistories d k i = Apart (start_of d k).histories ((start_of d (suc k)).histories - (start_of d k).histories) i 1

abbrev pub OutsidePositions : List ℕ → ℕ → ℕ → Type 0
OutsidePositions d k i = Apart (start_of d k).positions ((start_of d (suc k)).positions - (start_of d k).positions) i 1

module _ (b : Given) (n : ℕ) where
  -- column t of a block of n that lies in scratch from a place on
  unfoldable pub column_at : ℕ → ℕ → List Float → ℕ → List Float
  column_at from w scratch t = tab w (λ c. at scratch (from + c * n + t))

  -- column t before stage 0, between stages (signal in scratch's first region, accumulator in its second), and past the last stage
  unfoldable pub comes : ℕ → Column
  comes t =
      let a = array_of b.description in
      record {
        signal = column_in a.input n b.input t;
        accumulator = column_in a.head_in n b.head_in t;
        condition = column_in a.condition n b.condition t;
      }

  unfoldable pub between : Changing → ℕ → Column
  between e t =
      let a = array_of b.description in
      record {
        signal = column_at 0 a.channels e.scratch t;
        accumulator = column_at (widest_of b.description * n) a.head_in e.scratch t;
        condition = column_in a.condition n b.condition t;
      }

  unfoldable pub past : Changing → ℕ → Column
  past e t =
      let a = array_of b.description in
      record {
        signal = column_in a.channels n e.array_out t;
        accumulator = column_in a.head_size n e.head_out t;
        condition = column_in a.condition n b.condition t;
      }

  -- column t as it comes to stage k, and as it leaves it
  unfoldable pub entering : Changing → ℕ → ℕ → Column
  entering e zero t = comes t
  entering e (suc l) t = between e t

  unfoldable pub leaving : Changing → ℕ → ℕ → Column
  leaving e k t = cond (ltb k (layer_count b.description + 1)) (between e t) (past e t)

  -- how things stand, where reach says how far the stages are
  unfoldable pub standing : Changing → (ℕ → ℕ) → Standing (List Memory) Column
  standing e reach = record {
    st = memories_of b.description e.histories e.positions;
    col = λ t. cond (ltb t (reach (stage_count b.description))) (past e t) (cond (ltb t (reach 1)) (between e t) (comes t));
    reach = reach;
  }

  -- stage k took count columns from column `from` on
  pub record TurnDone (k from count : ℕ) (e e' : Changing) : Type 0 where
    pub memories : memories_of b.description e'.histories e'.positions k
        ≡ run_from (next b.description b.weights) (out b.description b.weights) k
        (memories_of b.description e.histories e.positions k) from (entering e k) count
    pub columns : (i : ℕ) → i < count → leaving e' k (from + i)
        ≡ out b.description b.weights k
        (run_from (next b.description b.weights) (out b.description b.weights) k
        (memories_of b.description e.histories e.positions k) from (entering e k) i) (entering e k (from + i))
    pub histories_kept : Free nan (OutsideHistories b.description k) e.histories e'.histories
    pub positions_kept : Free 0 (OutsidePositions b.description k) e.positions e'.positions
    pub before_kept : (t : ℕ) → t < from → (between e' t ≡ between e t) × (past e' t ≡ past e t)
    pub after_kept : (t : ℕ) → from + count ≤ t → t < n → (between e' t ≡ between e t) × (past e' t ≡ past e t)
