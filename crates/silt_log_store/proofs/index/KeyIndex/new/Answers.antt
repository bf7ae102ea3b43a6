use Rattle.silt_log_store.proofs.Common.{◌≡◌, ◌*◌, None, length, refl, ap, ◌∙◌, arith, length-replicate, bucket_count, empty_slots}
use Rattle.silt_log_store.proofs.Growth.{none_indexed}
use Rattle.silt_log_store.proofs.index.KeyIndex.new.Goals as goal

pub returns-clause-index : goal.returns-clause-index
returns-clause-index c =
    let long : length (empty_slots c.args.buckets) ≡ 4 * c.args.buckets = length-replicate (4 * c.args.buckets) None in
    let count : bucket_count (empty_slots c.args.buckets) ≡ c.args.buckets = omega arith in
    none_indexed _ c.args.buckets (ap bucket_count c.in_ok-new.ensures.empty ∙ count) c.in_ok-new.ensures.empty c.in_ok-with_capacity.ensures.items refl
