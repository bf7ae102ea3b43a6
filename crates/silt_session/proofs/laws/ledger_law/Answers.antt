use Rattle.silt_session.proofs.Ledgers.{ledger}
use Rattle.silt_session.proofs.laws.ledger_law.Goals as goal

pub returns : goal.returns
returns c = ledger
