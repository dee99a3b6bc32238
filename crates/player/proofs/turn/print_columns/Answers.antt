-- The columns that are played are heard after those before them (Hearing).
use Rattle.player.proofs.Hearing.{heard_more}
use Rattle.player.proofs.turn.print_columns.Goals as goal

pub returns-clause-heard : goal.returns-clause-heard
returns-clause-heard g c = heard_more c.requires.ready.heard c.play_columns-size.ensures.plays
