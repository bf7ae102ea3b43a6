use Rattle.silt_session.proofs.Common.{◌≡◌, ◌≤◌, ◌++◌, List, vec_len, vec_capacity, IsBatch, writer_at, Job, PerformsAll, left_in}
use Rattle.silt_session.proofs.batch.Workplace.perform_all.Given as goal

-- the jobs so far are done in order, and the others are left to do
abbrev pub invariant-loop-job : goal.invariant-loop-job
invariant-loop-job g l = record {
  within : IsBatch l.batch;
  room : vec_len l.batch.jobs ≤ vec_capacity l.batch.jobs;
  so_far : (old : List (Job g.row.D.Denot g.row.T.Denot g.row.N.Denot g.row.D-Fault.Denot))
      × (done : List (Job g.row.D.Denot g.row.T.Denot g.row.N.Denot g.row.D-Fault.Denot)) × (old ++ left_in l.batch ≡ left_in l.initial.batch)
      × PerformsAll g.D.Disk g.T.Trace l.self.room.now.seconds (g.H.HearsRoom.has_ended l.self.room.now.heard) (writer_at l.initial.seat l.initial.batch) old done (writer_at l.seat l.batch);
}

abbrev pub decreases-loop-job : goal.decreases-loop-job
decreases-loop-job g l = l.batch.left
