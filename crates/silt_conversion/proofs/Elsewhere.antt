-- What calls on other parts of the disk leave of a conversion.
use Rattle.silt_conversion.proofs.Common.{◌+◌, ◌*◌, ◌≤◌, subst, arith, size, Shape, device_size, hash_at, row_len, rows_outside, slot_outside, slots_inside, WrittenElsewhereLaw}
use Rattle.silt_conversion.proofs.Writing.{written_same}

-- a conversion has written what it had
pub written_elsewhere : WrittenElsewhereLaw
written_elsewhere log conversion old new at count bounds there most fits log_outside outside changes is =
    let inside : hash_at conversion.shape conversion.region + 4 * conversion.shape.buckets * row_len conversion.shape ≤ size old =
    omega (arith, slots_inside conversion.shape conversion.region there, fits) in
    let log_fits : device_size log.log.shape ≤ size old = subst (λ (s : Shape). device_size s ≤ size old) is.shape fits in
    written_same old new log conversion changes.honest (rows_outside old new log.log at count bounds log_fits log_outside changes) (λ was slot low.
    slot_outside conversion.shape conversion.region slot at count old.shown new.shown inside (omega (arith, low, most)) outside (changes.shown was)) is
