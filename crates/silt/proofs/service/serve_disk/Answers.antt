use Rattle.std.proofs.Common.{inl, inr}
use Rattle.std.specs.Prelude.{is_some}
use Rattle.silt_jobs.proofs.Openings.{refused_disk}
use Rattle.silt.proofs.service.serve_disk.Goals as goal

pub returns-in-Ok : goal.returns-in-Ok
returns-in-Ok g c =
    let way = c.entrance_of-entrance in
    let alone = rw c.report_at_once.ensures.disk at c.in-Ok.ensures.alone in
    let opened = rw c.report_at_once.ensures.disk at c.in-Ok.ensures.opened in
    (is_some way.result, way.ensures.told, inr (alone, (c.in-Ok.core, opened, (c.serve_opened-disk.ensures.served, c.serve_opened-disk.ensures.led))))

pub returns-in-Err : goal.returns-in-Err
returns-in-Err g c =
    let refused = rw (← c.refuse.ensures.disk) at c.in-Err.ensures.refused in (
      is_some c.entrance_of-entrance.result,
      c.entrance_of-entrance.ensures.told,
      inl (refused_disk g.S.Disk.Disk c.args.disk c.report_at_once.new.self _ c.in-Err.unopened.why _ _ _ c.report_at_once.ensures.disk refused c.refuse.ensures.printed),
    )
