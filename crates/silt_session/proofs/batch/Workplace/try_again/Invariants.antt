use Rattle.silt_session.proofs.Common.{◌≤◌, FindsNoRoomTimes}
use Rattle.silt_session.proofs.batch.Workplace.try_again.Given as goal

-- each try so far was refused for want of room
abbrev pub invariant-loop-tried : goal.invariant-loop-tried
invariant-loop-tried g l = record {
  few : l._tried ≤ 6;
  none : FindsNoRoomTimes g.D.Disk g.T.Trace l._tried l.initial.seat l.request l.seat;
}
