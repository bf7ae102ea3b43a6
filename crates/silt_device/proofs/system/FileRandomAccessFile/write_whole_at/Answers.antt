use Rattle.silt_device.proofs.Files.{system_tears}
use Rattle.silt_device.proofs.system.FileRandomAccessFile.write_whole_at.Goals as goal

pub returns-clause-torn : goal.returns-clause-torn
returns-clause-torn c = λ fits. system_tears _ _ _ _
