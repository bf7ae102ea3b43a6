use Rattle.silt_merge.proofs.Sounding.{sound_stores}
use Rattle.silt_merge.proofs.laws.sound_stores_law.Goals as goal

pub returns : goal.returns
returns c = sound_stores
