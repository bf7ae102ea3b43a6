use Rattle.silt_session.proofs.Common.{◌≡◌, ◌≤◌, ◌++◌, List, vec_len, vec_capacity, IsBatch, RepliesToAll, Job}
use Rattle.silt_session.proofs.held.Batch.send_done.Given as goal

-- the jobs that were taken from the end have their replies
abbrev pub invariant-loop-self : goal.invariant-loop-self
invariant-loop-self g l = record {
  within : IsBatch l.self;
  count : l.self.left ≡ l.initial.self.left;
  fewer : vec_len l.self.jobs ≤ vec_len l.initial.self.jobs;
  room : vec_capacity l.self.jobs ≡ vec_capacity l.initial.self.jobs;
  so_far : (sent : List (Job g.row.D.Denot g.row.T.Denot g.row.N.Denot g.row.D-Fault.Denot))
      × (replied : List (Job g.row.D.Denot g.row.T.Denot g.row.N.Denot g.row.D-Fault.Denot)) × (l.self.jobs.items ++ sent ≡ l.initial.self.jobs.items) × RepliesToAll l.flushed sent replied;
}

abbrev pub decreases-loop-self : goal.decreases-loop-self
decreases-loop-self g l = vec_len l.self.jobs
