use Rattle.std.proofs.Common.{◌≡◌, ap}
use Rattle.silt_disk.specs.Disk.{size}
use Rattle.silt_region_tests.proofs.regions.with_fault.Goals as goal

pub returns : goal.returns
returns c = ap size c.new.ensures.content
