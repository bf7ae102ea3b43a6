use Rattle.silt_conversion.proofs.Common.{refl}
use Rattle.silt_conversion.proofs.Writing.{none_written}
use Rattle.silt_conversion.proofs.conversion.Conversion.start.Goals as goal

pub returns-clause-written : goal.returns-clause-written
returns-clause-written c = λ content. none_written content c.args.log.now _ c.geometry-geometry.ensures refl refl c.new-2.ensures
