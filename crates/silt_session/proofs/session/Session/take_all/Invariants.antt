use Rattle.silt_session.proofs.Common.{◌≡◌, ◌++◌, List, length, into_iter_items, IsToldMore, AnswersSoFar, HasRoom}
use Rattle.silt_event.specs.declared.event.Event.{Event as EventOf}
use Rattle.silt_session.proofs.session.Session.take_all.Given as goal

-- the events so far have their replies or wait, there is room for the others, and what was told stays told
abbrev pub invariant-loop-event : goal.invariant-loop-event
invariant-loop-event g l = record {
  can : (goal.iterator-loop-event g).can_next l.event-iterator;
  finite : (goal.iterator-loop-event g).is_finite l.event-iterator;
  room : HasRoom l.pipeline (length (into_iter_items l.event-iterator));
  so_far : (done : List EventOf) × (done ++ into_iter_items l.event-iterator ≡ into_iter_items l.initial.event-iterator)
      × AnswersSoFar g.D.Disk l.self.settles_gets g.T.Trace done l.pipeline;
  told : IsToldMore l.initial.pipeline.told l.pipeline.told;
}
