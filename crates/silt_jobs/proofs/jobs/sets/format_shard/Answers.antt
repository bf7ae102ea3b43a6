use Rattle.silt_jobs.proofs.Common.{◌∙◌, inl, sym}
use Rattle.silt_jobs.proofs.jobs.sets.format_shard.Goals as goal

pub returns-in-Some-clause-formatted : goal.returns-in-Some-clause-formatted
returns-in-Some-clause-formatted g c =
    let given = rw (c.as_str.ensures.value, c.in-Ok.ensures, c.in-Some.is) at c.format_file-given.ensures in
    (c.format_file-given.result.1, sym c.is_done.ensures ∙ c.if-is_done.true, given)

pub returns-clause-ended : goal.returns-clause-ended
returns-clause-ended g c =
    inl (c.format_file-given.result.0, c.format_file-given.result.1, rw (c.as_str.ensures.value, c.in-Ok.ensures) at c.format_file-given.ensures, c.at_shard.ensures)
