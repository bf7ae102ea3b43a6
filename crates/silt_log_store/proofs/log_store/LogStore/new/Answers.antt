use Rattle.silt_log_store.proofs.Buckets.{bucket_count_is}
use Rattle.silt_log_store.proofs.log_store.LogStore.new.Goals as goal

pub new-requires-2 : goal.new-requires-2
new-requires-2 c = rw c.buckets.ensures.value (bucket_count_is _ c.buckets.ensures.limits.buckets)
