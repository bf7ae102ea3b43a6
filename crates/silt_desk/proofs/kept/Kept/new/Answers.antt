use Rattle.silt_desk.proofs.Common.{seen, history_opens}
use Rattle.silt_desk.proofs.kept.Kept.new.Goals as goal

pub returns-clause-history : goal.returns-clause-history
returns-clause-history g c =
    history_opens (record { opening = c.in_ok-opening.opening.entries; count = c.count.result; calls = c.in-Ok.calls.items; most = c.args.most }) (seen g.D.Disk c.args.core.now)
    c.in-Ok.ensures.items c.count.ensures c.in_ok-opening.ensures.entries c.standing-known.ensures.has_map c.standing-known.ensures.few
    (c.standing-known.ensures.safe c.in_ok-opening.ensures.working)
