use Rattle.silt_jobs.proofs.Common.{◌∙◌, ap, sym, Shape}
use Rattle.silt_jobs.proofs.jobs.sets.few_regions.Goals as goal

pub returns-then-has_few_regions-clause-few : goal.returns-then-has_few_regions-clause-few
returns-then-has_few_regions-clause-few g c =
    let hashes = c.hashes.ensures.value ∙ ap (λ (s : Shape). s.hashes) c.geometry.ensures in
    (c.in_ok-core.core.now, sym c.in_ok-core.ensures.value, hashes, c.has_few_regions.ensures.few c.if-has_few_regions.true)
