use Rattle.silt_jobs.proofs.Common.{inl, inr}
use Rattle.silt_jobs.proofs.Openings.{opened_alone, refused_opening}
use Rattle.silt_jobs.proofs.jobs.files.run_file.Goals as goal

pub returns-in-Ok : goal.returns-in-Ok
returns-in-Ok g c =
    let opened = opened_alone g.S.Disk.Disk _ c.open.result c.in-Ok.core c.open.ensures.opened c.in-Ok.ensures.opened c.in-Ok.ensures.alone in
    inr (opened.0, opened.1, inr (opened.2, (c.in-Ok.core, opened.3, c.run_opened-disk.ensures)))

pub returns-in-Err : goal.returns-in-Err
returns-in-Err g c =
    refused_opening g.S.Disk.Disk _ _ _ c.open.result _ c.in-Err.unopened.why _ _ _ (λ disk refuses. inl refuses) c.open.ensures.opened c.open.ensures.not_opened
    (rw (← c.refuse.ensures.disk) at c.in-Err.ensures.refused) c.refuse.ensures.printed
