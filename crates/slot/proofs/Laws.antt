-- A convolution on its parts of the buffers does to its own memory what the recurrence does, and to nothing else. Assumes nothing.
use Rattle.std.specs.Prelude.{Some}
use mathlib.Core.Path.{◌≡◌, refl, ◌∙◌, ap}
use mathlib.Core.List.{List}
use Prim.Native.Nat.{ℕ, ◌+◌, ◌-◌, ◌<◌}
use native.Mathlib.Omega.{arith}
use lib.ListN.{length, get_or, set, take, drop, length-set}
use lib.Seq.{get_or-set_same, get_or-set_other}
use lib.Ieee.{Float, nan}
use borrow.Rule.Slice.PartMut.{put_mid}
use Rattle.lists.specs.Part.{part}
use Rattle.lists.specs.Region.{cell}
use Rattle.lists.proofs.Parts.{end_start, length_part, part_put, put_free}
use Rattle.ring.specs.Memory.{Memory, Sound}
use Rattle.ring.proofs.Window.{after_sound}
use Rattle.shape.specs.declared.Shape.{Shape}
use Rattle.shape.specs.Counts.{ring_length, weight_count, history_count}
use Rattle.column.specs.Recurrence.{remembered}
use Rattle.conv.specs.Fits.{ConvFits}
use Rattle.conv.specs.Does.{Convolved}
use Rattle.description.specs.Sizes.{weights_of}
use Rattle.description.specs.declared.places.Place.{Place}
use Rattle.slot.specs.View.{weights_in, memory_in}
use Rattle.slot.specs.Play.{PlayFits, Played}

-- hc, wc, len: the counts as the code has them
module _ (sh : Shape) (at : Place) (p m nwork np x out rows : ℕ) (histories weights : List Float) (hc wc len : ℕ)
    (hc-is : hc ≡ history_count sh) (wc-is : wc ≡ weight_count sh) (len_is : len ≡ ring_length sh)
    (f : PlayFits sh at p m nwork (length histories) np (length weights) x out rows) where
  pub conv_fits : ConvFits sh p len m nwork (length (take (at.histories + hc - at.histories) (drop at.histories histories)))
      (length (take (at.weights + wc - at.weights) (drop at.weights weights))) x out rows
  conv_fits = record {
    parts = record {
      range = f.range;
      divided = f.divided;
      place_in = rw len_is f.place_in;
      ring_is = len_is;
      history_is = rw (end_start at.histories hc, hc-is) (length_part at.histories (history_count sh) histories f.histories_in);
      weights_is = rw (end_start at.weights wc, wc-is) (length_part at.weights (weight_count sh) weights f.weights_inside);
    };
    x_in = f.x_in;
    out_in = f.out_in;
    rows_in = f.rows_in;
    out_x = f.out_x;
    out_rows = f.out_rows;
    rows_x = f.rows_x;
  }

  -- the convolution's own history and weights
  abbrev own : List Float
  own = take (at.histories + hc - at.histories) (drop at.histories histories)

  own_is : own ≡ part at.histories (history_count sh) histories
  own_is = rw (end_start at.histories hc, hc-is)

  weights_are : take (at.weights + wc - at.weights) (drop at.weights weights) ≡ weights_in (Some sh) at weights
  unfolding weights_in weights_of
  weights_are = rw (end_start at.weights wc, wc-is)

  sound : Sound sh.ins (ring_length sh) (record { history = own; place = p })
  unfolding history_count
  sound = record {
    place_in = f.place_in;
    history_is = ap length own_is ∙ length_part at.histories (history_count sh) histories f.histories_in;
  }

  module _ (work work' last : List Float) (q : ℕ)
      (c : Convolved sh (take (at.weights + wc - at.weights) (drop at.weights weights)) m x out rows work (record { history = own; place = p }) work' (record { history = last; place = q })) where
    -- the columns that the region at x holds
    abbrev columns : ℕ → ℕ → Float
    columns t j = cell m x work j t

    left : record { history = last; place = q } ≡ remembered sh columns (record { history = own; place = p }) m
    left = c.memory columns (record { is = λ j t hj ht. refl })

    left_sound : Sound sh.ins (ring_length sh) (record { history = last; place = q })
    left_sound = rw left (after_sound sound columns m)

    pub place_in : q < ring_length sh
    place_in = left_sound.place_in

    pub last_long : length last ≡ history_count sh
    unfolding history_count
    last_long = left_sound.history_is

    -- the memory at its place is what the convolution left
    abbrev memory_after : ℕ → List Float → List ℕ → Memory
    memory_after i h positions = record { history = part at.histories (history_count sh) h; place = get_or positions i 0 }

    memory_is : (positions : List ℕ) (i : ℕ) → i < length positions
        → memory_after i (put_mid at.histories (at.histories + hc - at.histories) histories last) (set positions i q) ≡ record { history = last; place = q }
    memory_is positions i h =
        rw (end_start at.histories hc, hc-is, part_put nan at.histories (history_count sh) histories last f.histories_in last_long, get_or-set_same positions i q 0 h)

    module _ (positions : List ℕ) (p_is : p ≡ get_or positions at.positions 0) (np-is : np ≡ length positions) where
      memory_was : record { history = own; place = p } ≡ memory_in (Some sh) at histories positions
      unfolding memory_in
      memory_was = rw (own_is, p_is)

      memory_now : memory_in (Some sh) at (put_mid at.histories (at.histories + hc - at.histories) histories last) (set positions at.positions q)
          ≡ record { history = last; place = q }
      unfolding memory_in
      memory_now = memory_is positions at.positions (omega (arith, f.positions_in, np-is))

      pub played : Played sh at weights m x out rows work histories positions work'
          (put_mid at.histories (at.histories + hc - at.histories) histories last) (set positions at.positions q)
      played = record {
        outs = λ g h. rw (← weights_are, ← memory_was) (c.outs g h);
        memory = λ g h. memory_now ∙ c.memory g h ∙ ap (λ (s : Memory). remembered sh g s m) memory_was;
        others = c.others;
        histories_kept = rw (end_start at.histories hc, hc-is) (put_free nan at.histories (history_count sh) histories last f.histories_in last_long);
        positions_kept = record {
          long = length-set positions at.positions q;
          is = λ i h. get_or-set_other positions at.positions i q 0 (λ e. omega (arith, h, e));
        };
      }
