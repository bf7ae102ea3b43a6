use Rattle.std.proofs.Common.{◌≡◌}
use Rattle.silt_disk.specs.Disk.{size}
use Rattle.silt_device.specs.Memory.{memory_content}
use Rattle.silt_merge.specs.Merging.{IsSameMerge}
use Rattle.silt_region_tests.proofs.regions.merge.pieces.lent.lend_steps.Given as goal

abbrev pub invariant-loop-step : goal.invariant-loop-step
invariant-loop-step l = record {
  same : IsSameMerge l.initial.merge l.merge;
  room : size (memory_content l.disk) ≡ size (memory_content l.initial.disk);
}
