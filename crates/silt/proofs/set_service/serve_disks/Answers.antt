use Rattle.std.proofs.Common.{inl, inr}
use Rattle.std.specs.Prelude.{is_some}
use Rattle.silt.proofs.set_service.serve_disks.Goals as goal

pub returns-in-Ok : goal.returns-in-Ok
returns-in-Ok g c =
    let way = c.entrance_of-entrance in
    let each = c.report_each-disks in
    let opened = c.in-Ok.ensures in
    let served = c.serve_shards.ensures in
    (is_some way.result, way.ensures.told, (each.result.items, each.ensures, inr (opened.shards, (c.in-Ok.cores.items, opened.shape, opened.opens, served.served, served.left, served.led))))

pub returns-in-Err : goal.returns-in-Err
returns-in-Err g c =
    let way = c.entrance_of-entrance in
    let each = c.report_each-disks in
    let fault = c.in-Err.fault in
    (is_some way.result, way.ensures.told, (each.result.items, each.ensures, inl (c.new.ensures.items, (fault.shard, fault.disk, fault.cause, c.in-Err.ensures.cause, c.refuse_shard.ensures))))
