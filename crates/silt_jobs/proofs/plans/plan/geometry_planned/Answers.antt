use Rattle.silt_jobs.proofs.Common.{option_map, ap, shape_planned, ◌∙◌, get_or, refl, sym, bucket_counts, is_planned}
use Rattle.silt_jobs.proofs.FirstCounts.{chosen, first_here, none_here, not_chosen}
use Rattle.silt_jobs.proofs.plans.plan.geometry_planned.Goals as goal

pub returns-in-Some : goal.returns-in-Some
returns-in-Some c =
    let r = c.args.request.now in
    let n = get_or bucket_counts c.loop-buckets.buckets-index 0 in
    chosen r n _ _ (is_planned r n) c.in-Some.geometry
    (first_here (is_planned r) bucket_counts c.loop-buckets.buckets-index c.loop-buckets.invariant.rest c.loop-buckets-test.true) (sym c.in-Some.is ∙ c.planned.ensures)

pub loop-buckets-preserved : goal.loop-buckets-preserved
loop-buckets-preserved c =
    let r = c.args.request.now in
    let n = get_or bucket_counts c.loop-buckets.buckets-index 0 in
    let here = first_here (is_planned r) bucket_counts c.loop-buckets.buckets-index c.loop-buckets.invariant.rest c.loop-buckets-test.true in
    record { items = refl; rest = not_chosen r n _ _ (is_planned r n) here (sym c.in-None.is ∙ c.planned.ensures) }

pub returns : goal.returns
returns c =
    let r = c.args.request.now in
    sym (ap (option_map (shape_planned r)) (none_here (is_planned r) bucket_counts c.loop-buckets.buckets-index c.loop-buckets.invariant.rest c.loop-buckets-test.false))
