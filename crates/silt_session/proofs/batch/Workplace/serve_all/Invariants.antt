use Rattle.silt_session.proofs.Common.{◌≡◌, List, Job, ServesBatches}
use Rattle.silt_session.proofs.batch.Workplace.serve_all.Given as goal

-- the seat keeps its number, and all jobs that were taken were done in batches
abbrev pub invariant-loop : goal.invariant-loop
invariant-loop g l = record {
  number : l.seat.caller.seat ≡ l.fn.seat.caller.seat;
  batches : (batches : List (List (Job g.row.D.Denot g.row.T.Denot g.row.N.Denot g.row.D-Fault.Denot)))
      × ServesBatches g.D.Disk g.T.Trace l.self.room.now.seconds (g.H.HearsRoom.has_ended l.self.room.now.heard) l.fn.seat l.fn.taker batches l.seat l.taker;
}
