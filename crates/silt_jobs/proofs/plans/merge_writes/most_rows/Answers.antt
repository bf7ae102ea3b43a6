use Rattle.silt_jobs.proofs.Common.{option_map_or, ℕ, Option, ap, refl, sym, bucket_counts, ◌∙◌, has_room, rows_between_merges}
use Rattle.silt_jobs.proofs.FirstCounts.{it_fails, it_passes, none_here}
use Rattle.silt_jobs.proofs.plans.merge_writes.most_rows.Goals as goal

pub returns-then-has_room : goal.returns-then-has_room
returns-then-has_room c =
    let at = c.loop-buckets in
    let first = it_passes (has_room c.args.keys) bucket_counts at.buckets-index at.invariant.rest c.loop-buckets-test.true (sym c.has_room.ensures ∙ c.if-has_room.true) in
    c.rows_between_merges.ensures ∙ sym (ap (λ (o : Option ℕ). option_map_or rows_between_merges o 0) first)

pub loop-buckets-preserved : goal.loop-buckets-preserved
loop-buckets-preserved c =
    let at = c.loop-buckets in
    let rest = it_fails (has_room c.args.keys) bucket_counts at.buckets-index at.invariant.rest c.loop-buckets-test.true (sym c.has_room.ensures ∙ c.if-has_room.false) in
    record { items = refl; rest = rest }

pub returns : goal.returns
returns c =
    let none = none_here (has_room c.args.keys) bucket_counts c.loop-buckets.buckets-index c.loop-buckets.invariant.rest c.loop-buckets-test.false in
    sym (ap (λ (o : Option ℕ). option_map_or rows_between_merges o 0) none)
