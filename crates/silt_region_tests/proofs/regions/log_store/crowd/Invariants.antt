use Rattle.std.proofs.Common.{◌≡◌}
use Rattle.silt_disk.specs.Disk.{size}
use Rattle.silt_device.specs.Memory.{memory_content}
use Rattle.silt_region_tests.proofs.regions.log_store.crowd.Given as goal

abbrev pub invariant-loop-place : goal.invariant-loop-place
invariant-loop-place g l = size (memory_content l.disk) ≡ size (memory_content l.initial.disk)
