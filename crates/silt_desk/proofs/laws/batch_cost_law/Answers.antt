use Rattle.silt_desk.proofs.Spending.{batch_cost}
use Rattle.silt_desk.proofs.laws.batch_cost_law.Goals as goal

pub returns : goal.returns
returns c = batch_cost
