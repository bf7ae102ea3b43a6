use Rattle.silt_shards.proofs.Common.{◌≡◌, ℕ, vec_len, ◌∙◌, subst, IfOk, AreShards}
use Rattle.silt_shards.proofs.Attempts.{ok_anyway}
use Rattle.silt_shards.proofs.Openings.{result_alike}
use Rattle.silt_shards.proofs.shard_files.open_shards_beside.Goals as goal

pub returns-clause-count : goal.returns-clause-count
returns-clause-count g c =
    let same = c.make_all.ensures.count ∙ c.in_ok-attempts.ensures.count in
    subst (λ (n : ℕ). IfOk c.gather.result (λ cores. vec_len cores ≡ n)) same c.gather.ensures.count

pub returns-clause-alike : goal.returns-clause-alike
returns-clause-alike g c = result_alike c.gather.result c.gather.ensures.shape

pub returns-clause-shards : goal.returns-clause-shards
returns-clause-shards g c = ok_anyway (AreShards g.D.Disk c.args.disks.items) c.gather.result c.in_ok-attempts.ensures.shards

pub returns-clause-cause : goal.returns-clause-cause
returns-clause-cause g c = c.gather.ensures.cause c.args.disks.items (c.make_all.ensures.on c.args.disks.items c.in_ok-attempts.ensures.due)
