use Rattle.silt_jobs.proofs.Common.{inl, refl}
use Rattle.silt_event.specs.declared.refusal.Refusal.TheVariants.{NoMemory}
use Rattle.silt_jobs.proofs.Refusals.{reported_refused}
use Rattle.silt_jobs.proofs.jobs.script.answer_script.Goals as goal

pub returns-in-Ok-run_lives : goal.returns-in-Ok-run_lives
returns-in-Ok-run_lives g c =
    let reads = c.in-Ok.ensures.reads in
    let script = rw c.value_len.ensures.value at reads.3 in
    let ran = rw (c.deref.ensures.value) at c.in-Ok-run_lives.ensures.ran in
    let written = rw (c.deref-in-Ok-run_lives.ensures.value, c.deref-in-Ok-run_lives-2.ensures.value) at c.in_ok-write_script-in-Ok-run_lives.ensures in
    inl (refl, (reads.0, reads.1, reads.2, c.in-Ok.script, script, c.in-Ok-run_lives.replies.items, ran, written))

pub returns-in-Err : goal.returns-in-Err
returns-in-Err g c = reported_refused c.args.geometry c.refuse.result _ _ _ _ NoMemory tt c.refuse.ensures
