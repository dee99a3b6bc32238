-- What the ranges and zero rules leave of the records and of a part: what the functions inside `check` ask of their callers. Document 01, 'Description'.
use Rattle.std.specs.Prelude.{◌≡◌, ℕ, ◌≤◌, Some}
use Rattle.shape.specs.declared.Shape.{Shape}
use Rattle.shape.specs.Counts.{InRange}
use Rattle.description.specs.Parts.{site_groups}
use Rattle.description.specs.declared.records.ArrayRecord.{ArrayRecord}
use Rattle.description.specs.declared.records.LayerRecord.{LayerRecord}
use Rattle.description.specs.Part.{Part}
use Rattle.description.specs.declared.places.Place.{Place}

-- n lies between two limits
pub record Between (low high n : ℕ) : Type 0 where
  pub least : low ≤ n
  pub most : n ≤ high

pub record ArrayRanges (a : ArrayRecord) : Type 0 where
  pub input : Between 1 32 a.input
  pub condition : Between 1 32 a.condition
  pub channels : Between 1 32 a.channels
  pub head_in : Between 1 32 a.head_in
  pub head_size : Between 1 32 a.head_size
  pub head_kernel : Between 1 16 a.head_kernel
  pub layers : Between 1 24 a.layers

pub record LayerRanges (r : LayerRecord) : Type 0 where
  pub bottleneck : Between 1 32 r.bottleneck
  pub kernel : Between 1 16 r.kernel
  pub dilation : Between 1 2048 r.dilation
  pub conv_groups : Between 1 32 r.conv_groups
  pub mixin_groups : Between 1 32 r.mixin_groups
  pub layer1x1_groups : r.layer1x1_groups ≤ 32
  pub head1x1_width : r.head1x1_width ≤ 32
  pub head1x1_groups : r.head1x1_groups ≤ 32
  pub head1x1_there : 1 ≤ r.head1x1_width → 1 ≤ r.head1x1_groups
  pub site_groups_in : (i : ℕ) → site_groups r.sites i ≤ 32

-- a part that is there has a shape in range
pub record Fits (p : Part) : Type 0 where
  pub shape : (sh : Shape) → p ≡ Some sh → InRange sh

-- a place no higher than a bound
pub record Low (bound : ℕ) (place : Place) : Type 0 where
  pub weights : place.weights ≤ bound
  pub histories : place.histories ≤ bound
  pub positions : place.positions ≤ bound
