-- A ring whose place has moved on.
use Rattle.ring.specs.declared.Ring.{Ring}
use Rattle.ring.specs.Place.{next_place}

abbrev pub moved : Ring → Ring
moved r = record { at = next_place r.len r.at; len = r.len }
