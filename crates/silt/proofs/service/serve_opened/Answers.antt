use Rattle.std.proofs.Common.{inl, inr}
use Rattle.silt_desk.specs.TraceLaws.{leaves_none}
use Rattle.silt.proofs.Endings.{at_status}
use Rattle.silt.proofs.service.serve_opened.Goals as goal

pub returns-then-has_few_regions-clause-served : goal.returns-then-has_few_regions-clause-served
returns-then-has_few_regions-clause-served g c =
    inl (c.refuse_few_regions.ensures.disk, c.has_few_regions.ensures.few c.if-has_few_regions.true, c.refuse_few_regions.ensures.printed)

pub returns-then-has_few_regions-clause-led : goal.returns-then-has_few_regions-clause-led
returns-then-has_few_regions-clause-led g c =
    leaves_none g.D.Disk c.args.core c.refuse_few_regions.result.0 c.refuse_few_regions.ensures.disk c.standing-known.ensures.has_map c.standing-known.ensures.few c.standing-known.ensures.begun

pub returns-then-are_short-clause-served : goal.returns-then-are_short-clause-served
returns-then-are_short-clause-served g c =
    let short = c.are_short.ensures.short c.if-are_short.true in
    inr (inl (c.close.ensures.disk, short.0, rw (c.value_len.ensures.value, c.geometry.ensures) at short.1, c.refuse-ended.ensures))

pub returns-then-are_short-clause-led : goal.returns-then-are_short-clause-led
returns-then-are_short-clause-led g c =
    leaves_none g.D.Disk c.args.core c.close.result c.close.ensures.disk c.standing-known.ensures.has_map c.standing-known.ensures.few c.standing-known.ensures.begun

pub returns-clause-served : goal.returns-clause-served
returns-clause-served g c =
    let served = c.serve_store-disk.ensures in
    rw (c.plain.ensures) (inr (inr (c.of.ensures, at_status _ _ _ _ c.serve_store-disk.result.1 served.printed served.bound served.quiet served.served)))
