use Rattle.silt_session.proofs.Pipelines.{settles_all, settles_order}
use Rattle.silt_session.proofs.Tolds.{asked_more}
use Rattle.silt_session.proofs.session.Session.finish.Goals as goal

pub returns : goal.returns
returns g c = λ told events was.
    let (before, some, asks, handed) = rw (← c.asked.view_is) at was in
    let all = c.in_ok-settle_by.ensures before handed in (
      asked_more told before.told c.settle_by.new.self.told asks all.told,
      settles_all g.D.Disk _ g.T.Trace events before c.settle_by.new.self all some,
      settles_order g.D.Disk _ g.T.Trace events before c.settle_by.new.self all some,
    )
