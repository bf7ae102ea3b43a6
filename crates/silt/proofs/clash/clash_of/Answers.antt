use Rattle.std.proofs.Common.{◌≡◌, Some, rules}
use Rattle.silt_words.specs.Jobs.{job_file, job_shards}
use Rattle.silt.proofs.Apart.{set_apart}
use Rattle.silt.proofs.clash.clash_of.Goals as goal

pub returns-in-Some-Some-clause-apart : goal.returns-in-Some-Some-clause-apart
returns-in-Some-Some-clause-apart g c =
    let named : job_file c.args.job.now ≡ Some c.in-Some-Some.file.now = search rules in
    let counted : job_shards c.args.job.now ≡ Some c.in-Some-Some.shards = search rules in
    λ none. set_apart (g.H.StandardStreams.are_file c.args.rt.now) c.args.job.now c.in-Some-Some.file.now c.in-Some-Some.shards named counted (c.clash_among.ensures.apart none)
