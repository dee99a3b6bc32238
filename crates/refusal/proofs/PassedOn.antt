-- What `?` hands on, the refusal that it found; and where nothing is refused, that `unwrap` may be called.
use Rattle.std.proofs.Common.{◌≡◌, ap}
use native.Mathlib.Omega.{arith}
use Rattle.std.specs.Prelude.{Result, Ok, Err, IsOk, IsErr, IsErrAnd}
use Rattle.refusal.specs.declared.Refusal.{Refusal}
use Rattle.refusal.specs.Number.{number_of}
use Rattle.refusal.proofs.Named.{number_above}

pub passed_on : {T : Type 0} {refusal : Refusal} (r : Result T Refusal) → IsErr r × IsErrAnd r (λ found. found ≡ refusal) → r ≡ Err refusal
passed_on (Ok value) q = search
passed_on (Err found) q = ap Err q.1

pub accepted : {T : Type 0} (r : Result T Refusal) → number_of r ≡ 0 → IsOk r
accepted (Ok value) e = search
accepted (Err refusal) e = absurd (omega (arith, e, number_above refusal))
