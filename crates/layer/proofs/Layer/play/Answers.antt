-- Five pieces, each of which asks what the one before leaves; layer-is joins them.
use Rattle.layer.proofs.All.{layer_is}
use Rattle.layer.proofs.Held.{ready_on}
use Rattle.layer.proofs.Layer.play.Goals as goal

pub mixer-requires : goal.mixer-requires
mixer-requires c = ready_on c.requires c.front.ensures.piece.leaves

pub gate-requires : goal.gate-requires
gate-requires c = ready_on (ready_on {b' = c.front.new.bench} c.requires c.front.ensures.piece.leaves) c.mixer.ensures.piece.leaves

pub head-requires : goal.head-requires
head-requires c =
    let first = ready_on {b' = c.front.new.bench} c.requires c.front.ensures.piece.leaves in
    ready_on (ready_on {b' = c.mixer.new.bench} first c.mixer.ensures.piece.leaves) c.gate.ensures.piece.leaves

pub residual-requires : goal.residual-requires
residual-requires c =
    let first = ready_on {b' = c.front.new.bench} c.requires c.front.ensures.piece.leaves in
    let second = ready_on {b' = c.mixer.new.bench} first c.mixer.ensures.piece.leaves in
    ready_on (ready_on {b' = c.gate.new.bench} second c.gate.ensures.piece.leaves) c.head.ensures.piece.leaves

pub returns-clause-layered : goal.returns-clause-layered
returns-clause-layered c =
    layer_is c.requires.layer_fits c.front.ensures.piece c.mixer.ensures.piece c.gate.ensures.piece c.head.ensures.piece c.residual.ensures.piece
