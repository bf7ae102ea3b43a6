use Rattle.silt_sorted_store.proofs.Rising.{rising_law}
use Rattle.silt_sorted_store.proofs.laws.rising_law.Goals as goal

pub returns : goal.returns
returns c = rising_law
