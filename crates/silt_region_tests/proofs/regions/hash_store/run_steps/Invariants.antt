use Rattle.std.proofs.Common.{◌≡◌}
use Rattle.silt_disk.specs.Disk.{size}
use Rattle.silt_region_tests.proofs.regions.hash_store.run_steps.Given as goal

abbrev pub invariant-loop-step : goal.invariant-loop-step
invariant-loop-step g l = record {
  shape : l.conversion.shape ≡ l.initial.conversion.shape;
  room : size (g.D.Disk.content l.disk) ≡ size (g.D.Disk.content l.initial.disk);
}
