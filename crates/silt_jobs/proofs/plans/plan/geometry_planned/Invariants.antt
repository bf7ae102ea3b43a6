use Rattle.silt_jobs.proofs.Common.{◌≡◌, drop, bucket_counts, first_with, is_planned}
use Rattle.silt_jobs.proofs.plans.plan.geometry_planned.Given as goal

abbrev pub invariant-loop-buckets : goal.invariant-loop-buckets
invariant-loop-buckets l = record {
  items : l.buckets-items ≡ bucket_counts;
  rest : first_with (is_planned l.request) bucket_counts ≡ first_with (is_planned l.request) (drop l.buckets-index bucket_counts);
}
