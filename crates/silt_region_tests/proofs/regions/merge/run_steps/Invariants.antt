use Rattle.std.proofs.Common.{◌≡◌}
use Rattle.silt_disk.specs.Disk.{size}
use Rattle.silt_merge.specs.Merging.{IsSameMerge}
use Rattle.silt_region_tests.proofs.regions.merge.run_steps.Given as goal

abbrev pub invariant-loop-step : goal.invariant-loop-step
invariant-loop-step g l = record {
  same : IsSameMerge l.initial.merge l.merge;
  room : size (g.D.Disk.content l.disk) ≡ size (g.D.Disk.content l.initial.disk);
}
