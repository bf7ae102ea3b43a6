use Rattle.std.proofs.Common.{arith}
use Rattle.silt_manifest.proofs.Laws.{closed_leaves}
use Rattle.silt_region_tests.proofs.regions.manifest.write_slots.Goals as goal

pub write_first-requires-clause-closed : goal.write_first-requires-clause-closed
write_first-requires-clause-closed g c = λ lifetimes outlive. closed_leaves 1 _ _ (omega arith) c.in_ok-write_synced.ensures.written c.in_ok-write_synced.ensures.rests
