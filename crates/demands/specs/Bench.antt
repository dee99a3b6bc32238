-- The bench table: each row has a name, what the definitions come to, and what document 01 says. Document 01, 'Bench table'.
use Rattle.std.specs.Prelude.{◌≡◌, true, false, List, [], ◌∷◌, map, ℕ, Float, Some}
use Prim.Native.String.{String}
use Rattle.std.specs.Float.{nan, binary32}
use Rattle.std.specs.Float.Ieee.{to_bits}
use Rattle.activation.specs.Activated.{relu, leaky, sigmoid}
use Rattle.activation.specs.declared.Activation.TheVariants.{Relu, LeakyRelu}
use Rattle.gating.specs.Joined.{joined}
use Rattle.gating.specs.declared.Mode.TheVariants.{Gated, Blended}
use Rattle.film.specs.Modulated.{modulated, modulation_of}
use Rattle.description.specs.Parts.{pointwise}
use Rattle.description.specs.Sizes.{sizes_of}
use Rattle.description.specs.declared.answers.Sizes.{Sizes}
use Rattle.description.specs.Part.{Part}
use Rattle.slot.specs.Steps.{pushed, convolved}
use Rattle.array.specs.Refusals.{block_refusal, planned_refusal}
use Rattle.array.specs.Calls.{histories_played, positions_played, head_played, array_played}
use Rattle.demands.specs.CaseA.{float, description_a, case_a}
use Rattle.demands.specs.Silence.{silent}

pub record Row : Type 0 where
  pub name : String
  pub computed : List ℕ
  pub expected : List ℕ

abbrev row : String → List ℕ → List ℕ → Row
row name computed expected = record { name = name; computed = computed; expected = expected }

-- values by their patterns
abbrev bits : List Float → List ℕ
bits = map (to_bits binary32)

abbrev bits_of : Float → List ℕ
bits_of x = to_bits binary32 x ∷ []

-- weights, histories, positions, W, depth
abbrev sizes : Sizes → List ℕ
sizes s = s.weights ∷ s.histories ∷ s.positions ∷ s.widest ∷ s.depth ∷ []

-- a convolution of one weight, without a bias
abbrev single : Part
single = Some (pointwise 1 1 1 false)

-- its output for one input from a reset
abbrev convolved_once : Float → Float → Float
convolved_once weight x = convolved single (weight ∷ []) (pushed single (silent single) (λ j. x)) 0

unfoldable pub table : List Row
table =
    row "case A is accepted" (block_refusal case_a 4 ∷ []) (0 ∷ [])
    ∷ row "case A, head outputs" (bits (head_played case_a 4)) (0x4040_0000 ∷ 0x40c0_0000 ∷ 0x4140_0000 ∷ 0 ∷ [])
    ∷ row "case A, array outputs" (bits (array_played case_a 4)) (0x4020_0000 ∷ 0x4108_0000 ∷ 0x4168_0000 ∷ 0xc0f0_0000 ∷ [])
    ∷ row "case A, histories" (bits (histories_played case_a 4)) (0xc080_0000 ∷ 0xc100_0000 ∷ 0x4080_0000 ∷ 0x40c0_0000 ∷ 0 ∷ 0 ∷ 0 ∷ [])
    ∷ row "case A, positions" (positions_played case_a 4) (0 ∷ 0 ∷ 0 ∷ 0 ∷ 0 ∷ [])
    ∷ row "case A, sizes 8, 7, 5, W 1, depth 2" (sizes (sizes_of description_a)) (8 ∷ 7 ∷ 5 ∷ 1 ∷ 2 ∷ [])
    ∷ row "ReLU(-0) = +0" (bits_of (relu (float 0x8000_0000))) (0 ∷ [])
    ∷ row "ReLU(NaN) = +0" (bits_of (relu nan)) (0 ∷ [])
    ∷ row "Leaky 0.5 at -4 is -2" (bits_of (leaky (float 0x3f00_0000) (float 0xc080_0000))) (0xc000_0000 ∷ [])
    ∷ row "Leaky 0.5 at -0 is -0" (bits_of (leaky (float 0x3f00_0000) (float 0x8000_0000))) (0x8000_0000 ∷ [])
    ∷ row "Sigmoid(0) = 0.5" (bits_of (sigmoid (float 0))) (0x3f00_0000 ∷ [])
    ∷ row "Gated, Leaky 0.5 and ReLU, (-4, 3) gives -6"
    (bits_of (joined Gated (LeakyRelu (float 0x3f00_0000)) Relu (float 0xc080_0000) (float 0x4040_0000))) (0xc0c0_0000 ∷ [])
    ∷ row "Blended, ReLU twice, (-2, 0.25) gives -1.5" (bits_of (joined Blended Relu Relu (float 0xc000_0000) (float 0x3e80_0000))) (0xbfc0_0000 ∷ [])
    ∷ row "FiLM 3 by 2 and -1 gives 5" (bits_of (modulated (modulation_of true (float 0x4000_0000) (float 0xbf80_0000)) (float 0x4040_0000))) (0x40a0_0000 ∷ [])
    ∷ row "no bias, weight 1, input -0 gives +0" (bits_of (convolved_once (float 0x3f80_0000) (float 0x8000_0000))) (0 ∷ [])
    ∷ row "plan (0,2)(1,1)(0,2)(1,3)(2,4) is accepted" (planned_refusal case_a 4 (0 ∷ 2 ∷ 1 ∷ 1 ∷ 0 ∷ 2 ∷ 1 ∷ 3 ∷ 2 ∷ 4 ∷ []) ∷ []) (0 ∷ [])
    ∷ row "plan (0,1)(1,2) is refused" (planned_refusal case_a 4 (0 ∷ 1 ∷ 1 ∷ 2 ∷ []) ∷ []) (9 ∷ [])
    ∷ []

-- every row comes to what document 01 says
unfoldable pub Holds : List Row → Type 0
Holds rows = map (λ r. r.computed) rows ≡ map (λ r. r.expected) rows
