-- `read_sites` reads each number at its place (Reading).
use Rattle.description.proofs.Reading.{sites_is}
use Rattle.description.proofs.records.read_sites.Goals as goal

pub returns : goal.returns
returns c =
    let args = c.args in
    sites_is args.description.now args.at c.number.ensures c.number-2.ensures c.number-3.ensures c.number-4.ensures c.number-5.ensures c.number-6.ensures c.number-7.ensures c.number-8.ensures
