use Rattle.silt_log_store.proofs.Common.{◌≡◌, ◌<◌, None, ◌∙◌, arith, bucket_count}
use Rattle.std.proofs.lemmas.Bool.Decides.{nat_tests}
use Rattle.silt_log_store.proofs.Emptied.{first_planned}
use Rattle.silt_log_store.proofs.Exits.{placing_found, placing_none, under_buckets}
use Rattle.silt_log_store.proofs.log_store.LogStore.placing.Goals as goal

pub returns-clause-some : goal.returns-clause-some
returns-clause-some g c =
    let room : c.self.inside.log.used < c.self.inside.log.shape.log_capacity = grind (arith, nat_tests, c.if-is_full.ensures.value, c.self.invariant.bounds.room) in
    rw (← c.self.view_is) (placing_found (g.D.Disk.content c.args.disk.now) _ c.args.key.now.0 c.in_ok-older.older c.plan_entry.result c.self.invariant room
    (λ honest index. c.in_ok-older.ensures.first honest (index.known honest)) c.plan_entry.ensures.holds (λ place. c.plan_entry.ensures.rule place
    ∙ under_buckets (bucket_count c.self.inside.table) c.key_buckets-buckets.result.0 c.key_buckets-buckets.result.1 place c.self.inside.table c.args.key.now.0 c.slot_of.result _
    (rw c.bucket_count.ensures.count at c.key_buckets-buckets.ensures.first) (rw c.bucket_count.ensures.count at c.key_buckets-buckets.ensures.second) c.slot_of.ensures))

pub returns-clause-none : goal.returns-clause-none
returns-clause-none g c =
    let room : c.self.inside.log.used < c.self.inside.log.shape.log_capacity = grind (arith, nat_tests, c.if-is_full.ensures.value, c.self.invariant.bounds.room) in
    rw (← c.self.view_is) (λ honest index. placing_none (g.D.Disk.content c.args.disk.now) _ c.args.key.now.0 c.in_ok-older.older c.plan_entry.result c.self.invariant room honest index
    (c.in_ok-older.ensures.first honest (index.known honest)) c.plan_entry.ensures.holds (λ place. c.plan_entry.ensures.rule place
    ∙ under_buckets (bucket_count c.self.inside.table) c.key_buckets-buckets.result.0 c.key_buckets-buckets.result.1 place c.self.inside.table c.args.key.now.0 c.slot_of.result _
    (rw c.bucket_count.ensures.count at c.key_buckets-buckets.ensures.first) (rw c.bucket_count.ensures.count at c.key_buckets-buckets.ensures.second) c.slot_of.ensures))

pub returns-clause-first : goal.returns-clause-first
returns-clause-first g c = rw (← c.self.view_is) (λ (none : c.self.inside.log.used ≡ 0).
    let standing : c.slot_of.result ≡ None = cc (c.slot_of.ensures, c.in_ok-older.ensures.empty none) in
    first_planned c.self.inside.table c.key_buckets-buckets.result.0 c.key_buckets-buckets.result.1 c.plan_entry.result (rw none at c.self.invariant.below)
    (λ place. cc (c.plan_entry.ensures.rule place)))
