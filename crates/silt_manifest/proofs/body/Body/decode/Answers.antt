use Rattle.silt_manifest.proofs.Common.{◌<◌, ◌-◌, inl, inr, arith, number_at}
use Rattle.silt_manifest.proofs.BodyBytes.{length_ids_at}
use Rattle.silt_manifest.proofs.body.Body.decode.Goals as goal

pub returns-in_err-read-clause-too_many : goal.returns-in_err-read-clause-too_many
returns-in_err-read-clause-too_many c =
    let many : c.logs.result - 1 < number_at 4 13 c.args.slot.now = c.in_err-read.ensures.too_many in
    rw c.from_residual.ensures (inl (omega (arith, many, length_ids_at 13 c.args.slot.now)))

pub returns-in_err-read-2-clause-too_many : goal.returns-in_err-read-2-clause-too_many
returns-in_err-read-2-clause-too_many c =
    let many : c.hashes.result < number_at 4 45 c.args.slot.now = c.in_err-read-2.ensures.too_many in
    rw c.from_residual-in_err-read-2.ensures (inr (omega (arith, many, length_ids_at 45 c.args.slot.now)))
