use Rattle.silt_wire.proofs.Common.{arith, ◌+◌, ◌-◌}
use Rattle.silt_wire.proofs.Digits.{digits_value-bound, digits_value-next}
use Rattle.silt_wire.proofs.number.digits_value.Goals as goal

pub overflow_mul-value : goal.overflow_mul-value
overflow_mul-value c =
    omega (arith, digits_value-bound c.args.digits.now c.loop-digit.digit-index c.requires.digits c.requires.short)

pub overflow_add-value : goal.overflow_add-value
overflow_add-value c =
    let next = digits_value-next c.args.digits.now c.loop-digit.digit-index c.requires.digits c.loop-digit-test.true in
    omega (arith, digits_value-bound c.args.digits.now (c.loop-digit.digit-index + 1) c.requires.digits c.requires.short)

pub loop-digit-preserved : goal.loop-digit-preserved
loop-digit-preserved c = cc (c.loop-digit.invariant, digits_value-next c.args.digits.now c.loop-digit.digit-index c.requires.digits c.loop-digit-test.true)
