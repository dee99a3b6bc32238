-- An absent site answers `from` and changes nothing; one that is there is `play` and then FiLM (Sites).
use native.Mathlib.Omega.{arith}
use Rattle.slot.proofs.Sites.{site_absent, film_fits, site_there}
use Rattle.slot.proofs.Bench.site.Goals as goal

pub returns-in_default-clause-sited : goal.returns-in_default-clause-sited
returns-in_default-clause-sited c = site_absent _ _ _ _ _ _ _ _ _ _ _ _ _ _ _ c.in_default.is

pub play-requires : goal.play-requires
play-requires c = (c.requires.site_fits.there _ c.in-Some.is).play

pub process-requires : goal.process-requires
process-requires c = (film_fits (c.requires.site_fits.there _ c.in-Some.is) _ c.play.ensures.played.others.long c.requires.site_fits.to_in, omega (arith, c.requires.site_fits_2.0.to_in, c.play.ensures.played.others.long), c.requires.site_fits_2.1)

pub returns-clause-sited : goal.returns-clause-sited
returns-clause-sited c = site_there _ _ c.in-Some.is (c.requires.site_fits_2.0.there _ c.in-Some.is) c.requires.site_fits.to_in c.play.ensures.played c.process.ensures
