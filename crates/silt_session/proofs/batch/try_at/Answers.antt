use Rattle.silt_session.proofs.Batches.{tried_once}
use Rattle.silt_session.proofs.batch.try_at.Goals as goal

pub returns : goal.returns
returns g c = tried_once g.D.Disk g.T.Trace _ _ _ _ _ _ _ _ c.perform-answer.ensures c.work_for_room-due.ensures
