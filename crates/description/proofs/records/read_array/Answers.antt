-- `read_array` reads each number at its place (Reading).
use Rattle.description.proofs.Reading.{array_is}
use Rattle.description.proofs.records.read_array.Goals as goal

pub returns : goal.returns
returns c = array_is c.args.description.now c.number.ensures c.number-2.ensures c.number-3.ensures c.number-4.ensures c.number-5.ensures c.number-6.ensures c.number-7.ensures c.number-8.ensures
