use Rattle.silt_jobs.proofs.Common.{length, ap, arith}
use Rattle.std.proofs.lemmas.Option.{slice_get_within}
use Rattle.silt_jobs.proofs.jobs.set_jobs.open_set.Goals as goal

pub index-requires : goal.index-requires
index-requires g c =
    let within = slice_get_within c.as_slice.result.now c.in-Err-compare_marks.shard c.in-Err-compare_marks.ensures.cause.disk c.in-Err-compare_marks.ensures.cause.at_shard in
    omega (arith, within, ap length c.as_slice.ensures.value, c.in-Ok.disks.ok)
