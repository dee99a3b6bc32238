-- Gating. Document 01, 'The recurrence': a = z[c], g = z[c + bottleneck], p the primary and s the secondary activation.
use Rattle.std.specs.Prelude.{ℕ, ◌*◌, Float}
use Rattle.std.specs.Float.{binary32}
use Rattle.std.specs.Float.Ieee.{add, mul, sub}
use Rattle.activation.specs.declared.Activation.{Activation}
use Rattle.activation.specs.Activated.{activated, one32}
use Rattle.gating.specs.declared.Mode.{Mode}
use Rattle.gating.specs.declared.Mode.TheVariants.{None, Gated, Blended}

-- mid = bottleneck in mode None, else twice that
unfoldable pub input_rows : Mode → ℕ → ℕ
input_rows None bottleneck = bottleneck
input_rows Gated bottleneck = 2 * bottleneck
input_rows Blended bottleneck = 2 * bottleneck

-- Blended, of s(g), p(a) and a: s(g) x p(a) + (1 - s(g)) x a
unfoldable pub blend : Float → Float → Float → Float
blend s p a = add binary32 (mul binary32 s p) (mul binary32 (sub binary32 one32 s) a)

-- None p(a); Gated p(a) x s(g); Blended s(g) x p(a) + (1 - s(g)) x a
unfoldable pub joined : Mode → Activation → Activation → Float → Float → Float
joined None p s a g = activated p a
joined Gated p s a g = mul binary32 (activated p a) (activated s g)
joined Blended p s a g = blend (activated s g) (activated p a) a
