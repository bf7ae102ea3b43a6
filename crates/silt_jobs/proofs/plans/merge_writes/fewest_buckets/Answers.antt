use Rattle.silt_jobs.proofs.Common.{unwrap_or, ℕ, Option, ap, refl, sym, bucket_counts, ◌∙◌, needs_buckets}
use Rattle.silt_jobs.proofs.FirstCounts.{it_fails, it_passes, none_here}
use Rattle.silt_jobs.proofs.plans.merge_writes.fewest_buckets.Goals as goal

pub returns-then-needs_buckets : goal.returns-then-needs_buckets
returns-then-needs_buckets c =
    let at = c.loop-buckets in
    let first = it_passes (needs_buckets c.args.most c.args.keys) bucket_counts at.buckets-index at.invariant.rest c.loop-buckets-test.true (sym c.needs_buckets.ensures ∙ c.if-needs_buckets.true) in
    sym (ap (λ (o : Option ℕ). unwrap_or o 2) first)

pub loop-buckets-preserved : goal.loop-buckets-preserved
loop-buckets-preserved c =
    let at = c.loop-buckets in
    let rest = it_fails (needs_buckets c.args.most c.args.keys) bucket_counts at.buckets-index at.invariant.rest c.loop-buckets-test.true (sym c.needs_buckets.ensures ∙ c.if-needs_buckets.false) in
    record { items = refl; rest = rest }

pub returns : goal.returns
returns c =
    let none = none_here (needs_buckets c.args.most c.args.keys) bucket_counts c.loop-buckets.buckets-index c.loop-buckets.invariant.rest c.loop-buckets-test.false in
    sym (ap (λ (o : Option ℕ). unwrap_or o 2) none)
