use Rattle.silt_wire.proofs.Common.{◌≡◌, take, digits_value}
use Rattle.silt_wire.proofs.number.digits_value.Given as goal

-- the digits so far write the number so far
abbrev pub invariant-loop-digit : goal.invariant-loop-digit
invariant-loop-digit l = l.value ≡ digits_value 10 (take l.digit-index l.digits)
