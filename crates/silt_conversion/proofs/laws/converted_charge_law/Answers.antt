use Rattle.silt_conversion.proofs.Charging.{converted_charge}
use Rattle.silt_conversion.proofs.laws.converted_charge_law.Goals as goal

pub returns : goal.returns
returns c = converted_charge
