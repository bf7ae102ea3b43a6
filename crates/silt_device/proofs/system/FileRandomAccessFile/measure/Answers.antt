use Rattle.silt_device.proofs.Files.{system_none}
use Rattle.silt_device.proofs.system.FileRandomAccessFile.measure.Goals as goal

pub returns-clause-len : goal.returns-clause-len
returns-clause-len c = λ honest. system_none _ honest
