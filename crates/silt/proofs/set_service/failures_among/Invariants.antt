use Rattle.std.proofs.Common.{take}
use Rattle.std.specs.Prelude.{All}
use Rattle.silt_jobs.specs.Ended.{HasFailed, none_failed}
use Rattle.silt.proofs.set_service.failures_among.Given as goal

-- no call of the disks so far failed
abbrev pub invariant-loop-shard : goal.invariant-loop-shard
invariant-loop-shard g l = All (λ disk. HasFailed g.D.Watched.kept_read g.D.Watched.last_failure disk none_failed) (take l.shard l.disks)
