use Rattle.silt_jobs.proofs.Common.{◌≡◌, drop, bucket_counts, first_with, has_room}
use Rattle.silt_jobs.proofs.plans.merge_writes.most_rows.Given as goal

abbrev pub invariant-loop-buckets : goal.invariant-loop-buckets
invariant-loop-buckets l = record {
  items : l.buckets-items ≡ bucket_counts;
  rest : first_with (has_room l.keys) bucket_counts ≡ first_with (has_room l.keys) (drop l.buckets-index bucket_counts);
}
