-- The records that the numbers of a description stand for. Document 01, 'Description' (the table of places).
use Rattle.std.specs.Prelude.{List, [], ◌∷◌, ℕ, ◌+◌, eqb, get_or}
use Rattle.std.specs.Float.Ieee.{of_bits}
use Rattle.std.specs.Float.{binary32}
use Rattle.activation.specs.declared.Activation.{Activation}
use Rattle.activation.specs.declared.Activation.TheVariants.{Tanh, Relu, Sigmoid, LeakyRelu}
use Rattle.gating.specs.declared.Mode.{Mode}
use Rattle.gating.specs.declared.Mode.TheVariants.{None, Gated, Blended}
use Rattle.description.specs.Numbers.{array_number, number, record_at}
use Rattle.description.specs.declared.records.ArrayRecord.{ArrayRecord}
use Rattle.description.specs.declared.records.LayerRecord.{LayerRecord}

-- input width, condition width, channels, head-in width, head size, head kernel, head bias (0/1), layer count L
unfoldable pub array_of : List ℕ → ArrayRecord
array_of d =
    record {
      input = array_number d 0;
      condition = array_number d 1;
      channels = array_number d 2;
      head_in = array_number d 3;
      head_size = array_number d 4;
      head_kernel = array_number d 5;
      head_bias = eqb (array_number d 6) 1;
      layers = array_number d 7;
    }

-- 0 None, 1 Gated, 2 Blended
unfoldable pub mode_of : ℕ → Mode
mode_of code = get_or (None ∷ Gated ∷ []) code Blended

-- 0 Tanh, 1 ReLU, 2 Sigmoid, 3 LeakyReLU; slope as float bits
unfoldable pub activation_of : ℕ → ℕ → Activation
activation_of code slope = get_or (Tanh ∷ Relu ∷ Sigmoid ∷ []) code (LeakyRelu (of_bits binary32 slope))

-- groups of FiLM sites 0-7, which start at a place
unfoldable pub sites_of : List ℕ → ℕ → List ℕ
sites_of d at =
    get_or d at 0
    ∷ get_or d (at + 1) 0
    ∷ get_or d (at + 2) 0
    ∷ get_or d (at + 3) 0
    ∷ get_or d (at + 4) 0
    ∷ get_or d (at + 5) 0
    ∷ get_or d (at + 6) 0
    ∷ get_or d (at + 7) 0
    ∷ []

unfoldable pub layer_of : List ℕ → ℕ → LayerRecord
layer_of d l =
    record {
      bottleneck = number d l 0;
      kernel = number d l 1;
      dilation = number d l 2;
      conv_groups = number d l 3;
      mixin_groups = number d l 4;
      mode = mode_of (number d l 5);
      primary = activation_of (number d l 6) (number d l 7);
      secondary = activation_of (number d l 8) (number d l 9);
      layer1x1_groups = number d l 10;
      layer1x1_bias = eqb (number d l 11) 1;
      head1x1_width = number d l 12;
      head1x1_groups = number d l 13;
      head1x1_bias = eqb (number d l 14) 1;
      sites = sites_of d (record_at l + 15);
      shift_bits = number d l 23;
    }
