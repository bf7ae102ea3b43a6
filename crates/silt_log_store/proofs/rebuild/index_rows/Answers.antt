use Rattle.silt_log_store.proofs.Common.{arith, rules}
use Rattle.silt_log_store.proofs.Buckets.{bucket_count_is}
use Rattle.silt_log_store.proofs.Growth.{rebuilt_held}
use Rattle.silt_log_store.proofs.Rows.{rows_none}
use Rattle.silt_log_store.proofs.rebuild.index_rows.Goals as goal

pub new-requires : goal.new-requires
new-requires g c = rw c.buckets-buckets.ensures.value (bucket_count_is _ c.buckets-buckets.ensures.limits.buckets)

pub loop-place-init : goal.loop-place-init
loop-place-init g c = search (rules, arith, rows_none, g.D.Disk.content)

pub returns-clause-held : goal.returns-clause-held
returns-clause-held g c = search (rules, arith, bucket_count_is, rebuilt_held)
