-- A whole header is low (Sized).
use Rattle.player.proofs.Sized.{low_by}
use Rattle.player.proofs.play.Goals as goal

pub with_header-requires : goal.with_header-requires
with_header-requires g c = low_by _ c.read_header.ensures c.in-Ok.is
