use Rattle.silt_device.proofs.Files.{system_none}
use Rattle.silt_device.proofs.system.FileRandomAccessFile.read_all_from.Goals as goal

pub returns-clause-bytes : goal.returns-clause-bytes
returns-clause-bytes c = λ honest. system_none _ honest
