-- An answer's number, by its two cases.
use Rattle.refusal.proofs.answer.Goals as goal

pub returns-in-Ok : goal.returns-in-Ok
returns-in-Ok g c = rw c.in-Ok.is

pub returns-in-Err : goal.returns-in-Err
returns-in-Err g c = rw c.in-Err.is c.from.ensures
