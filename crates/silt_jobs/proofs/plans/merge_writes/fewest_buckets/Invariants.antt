use Rattle.silt_jobs.proofs.Common.{◌≡◌, drop, bucket_counts, first_with, needs_buckets}
use Rattle.silt_jobs.proofs.plans.merge_writes.fewest_buckets.Given as goal

abbrev pub invariant-loop-buckets : goal.invariant-loop-buckets
invariant-loop-buckets l = record {
  items : l.buckets-items ≡ bucket_counts;
  rest : first_with (needs_buckets l.most l.keys) bucket_counts ≡ first_with (needs_buckets l.most l.keys) (drop l.buckets-index bucket_counts);
}
