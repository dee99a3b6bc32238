-- What one pass over a description adds up, layer by layer, and the answer that follows from it: for the contracts of the functions inside `check`,
-- whose own promise (Answers) does not rest on it.
use Rattle.std.specs.Prelude.{List, [], ◌∷◌, false, cond, ◌||◌, ◌+◌, ◌≤◌, max, ltb, Err, Ok}
use Rattle.description.specs.Tests.{any}
use Rattle.description.specs.Parts.{head_rechannel_of, rechannel_of, slots_of, uneven_of}
use Rattle.description.specs.Sizes.{array_widths, histories_of, largest, layer_widths, past_of, place_of, positions_of, reach, total, weights_of}
use Rattle.description.specs.Refusals.{most, unmatched_of}
use Rattle.description.specs.Ranges.{Low}
use Rattle.description.specs.declared.records.ArrayRecord.{ArrayRecord}
use Rattle.description.specs.declared.records.LayerRecord.{LayerRecord}
use Rattle.description.specs.Part.{Part}
use Rattle.description.specs.declared.places.Place.{Place}
use Rattle.description.specs.Checked.{Checked}
use Rattle.refusal.specs.declared.Refusal.TheVariants.{Groups, Widths, TooLarge}
use Rattle.description.specs.declared.tally.Counted.{Counted}
use Rattle.description.specs.declared.tally.Tally.{Tally}

-- the counts of more parts
unfoldable pub past_all : Place → List Part → Place
past_all place ps =
    record {
      weights = place.weights + total weights_of ps;
      histories = place.histories + total histories_of ps;
      positions = place.positions + total positions_of ps;
    }

unfoldable pub count_all : Counted → List Part → Counted
count_all c ps = record { place = past_all c.place ps; uneven = c.uneven || any uneven_of ps }

-- the array's own, before any layer
unfoldable pub start_of : ArrayRecord → Tally
start_of a =
    record {
      counted = record { place = place_of (rechannel_of a ∷ []); uneven = false };
      unmatched = false;
      widest = largest (array_widths a);
      depth = 0;
    }

-- a layer more
unfoldable pub with_layer : Tally → ArrayRecord → LayerRecord → Tally
with_layer t a r =
    record {
      counted = count_all t.counted (slots_of a r);
      unmatched = t.unmatched || unmatched_of a r;
      widest = max t.widest (largest (layer_widths r));
      depth = t.depth + reach r;
    }

-- a tally so low that another layer can be added
pub record LowTally (t : Tally) : Type 0 where
  pub place : Low 0x1_0000_0000 t.counted.place
  pub depth : t.depth ≤ 0x1_0000_0000

-- the answer, where the parts end at a place
unfoldable pub answer_at : Tally → Place → Checked
answer_at t place =
    cond t.counted.uneven (Err Groups)
    (cond t.unmatched (Err Widths)
    (cond (ltb most place.weights || ltb most place.histories) (Err TooLarge)
    (Ok
    (record {
      weights = place.weights;
      histories = place.histories;
      positions = place.positions;
      widest = t.widest;
      depth = t.depth;
    }))))

-- the head rechannel is the last part
unfoldable pub answer_of : Tally → ArrayRecord → Checked
answer_of t a = answer_at t (past_of t.counted.place (head_rechannel_of a))
