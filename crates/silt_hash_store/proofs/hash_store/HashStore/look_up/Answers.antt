use Rattle.silt_hash_store.proofs.Common.{HashState}
use Rattle.silt_hash_store.proofs.Finding.{both_decide, one_decides, row_found, weaker_ok}
use Rattle.silt_hash_store.proofs.hash_store.HashStore.look_up.Goals as goal

pub returns-in-Some-clause-finds : goal.returns-in-Some-clause-finds
returns-in-Some-clause-finds g c =
    let store : HashState =
    record { shape = c.self.inside.region.geometry; region = c.self.inside.region.number; tags = c.self.inside.tags; puts = c.self.inside.puts; digest = c.self.inside.digest.0 } in
    rw (← c.self.view_is) (λ honest count is. row_found store (g.D.Disk.content c.args.disk.now).shown count is c.args.key.now.0 c.key_buckets-first.result.0 c.key_buckets-first.result.1
    c.in-Some.found (rw c.in-Some.is at (c.in_ok-found.ensures.finds honest)))

pub returns-clause-finds : goal.returns-clause-finds
returns-clause-finds g c =
    let store : HashState =
    record { shape = c.self.inside.region.geometry; region = c.self.inside.region.number; tags = c.self.inside.tags; puts = c.self.inside.puts; digest = c.self.inside.digest.0 } in
    rw (← c.self.view_is) (λ honest count is. weaker_ok c.find_in-2.result _ _ (λ found finds. both_decide store (g.D.Disk.content c.args.disk.now).shown count is c.args.key.now.0 c.buckets.result
    c.key_buckets-first.result.0 c.key_buckets-first.result.1 found c.buckets.ensures.value c.key_buckets-first.ensures.first c.key_buckets-first.ensures.second (rw c.in_default.is
    at (c.in_ok-found.ensures.finds honest)) finds) (c.find_in-2.ensures.finds honest))

pub returns-then-first-second-clause-finds : goal.returns-then-first-second-clause-finds
returns-then-first-second-clause-finds g c =
    let store : HashState =
    record { shape = c.self.inside.region.geometry; region = c.self.inside.region.number; tags = c.self.inside.tags; puts = c.self.inside.puts; digest = c.self.inside.digest.0 } in
    rw (← c.self.view_is) (λ honest count is. one_decides store (g.D.Disk.content c.args.disk.now).shown count is c.args.key.now.0 c.buckets.result c.key_buckets-first.result.0
    c.key_buckets-first.result.1 c.buckets.ensures.value c.key_buckets-first.ensures.first c.key_buckets-first.ensures.second c.if-first-second.true (rw c.in_default.is
    at (c.in_ok-found.ensures.finds honest)))
