-- `blocks` lends as many numbers as it has room for. Their count is cited and not computed: a search would count them one by one.
use Rattle.std.proofs.Common.{◌≡◌, ℕ, length, replicate, sym}
use Rattle.std.proofs.Math.ListN.{length-replicate}
use lib.Ieee.{Float, binary32, of_bits}
use Rattle.sequences.proofs.largest.blocks.Goals as goal

as_long : (n : ℕ) (x : Float) → n ≡ length (replicate n x)
as_long n x = sym (length-replicate n x)

pub slice_bounds-from_reset-end : goal.slice_bounds-from_reset-end
slice_bounds-from_reset-end c = as_long 983106 (of_bits binary32 0x3f80_0000)
