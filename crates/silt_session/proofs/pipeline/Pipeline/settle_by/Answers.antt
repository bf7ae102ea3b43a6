use Rattle.silt_session.proofs.Common.{ap}
use Rattle.silt_session.proofs.Pipelines.{refused_settles}
use Rattle.silt_session.proofs.Tolds.{more_none}
use Rattle.silt_session.proofs.pipeline.Pipeline.settle_by.Goals as goal

pub returns-in-Ok : goal.returns-in-Ok
returns-in-Ok g c = λ before handed. c.fill_by.ensures before handed.0 (rw c.in-Ok.is at handed.1)

pub returns-in-Err-NoMemory : goal.returns-in-Err-NoMemory
returns-in-Err-NoMemory g c = λ before handed.
    refused_settles g.D.Disk g.T.Trace before c.args.self.now c.fill_without_tasks.new.self handed.0.0 (handed.0.1, handed.0.2)
    (rw handed.0.3 (more_none before.told)) (ap (λ s. s.next) handed.0.3) c.fill_without_tasks.ensures.replies
    c.fill_without_tasks.ensures.moved
