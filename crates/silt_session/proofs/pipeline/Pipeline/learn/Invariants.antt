use Rattle.silt_session.proofs.Common.{◌≡◌, IsToldMore}
use Rattle.silt_session.proofs.pipeline.Pipeline.learn.Given as goal

-- more is told, and nothing else changes
abbrev pub invariant-loop-task : goal.invariant-loop-task
invariant-loop-task g l = record {
  told : IsToldMore l.initial.self.told l.self.told;
  next : l.self.told.next ≡ l.initial.self.told.next;
  same : l.self ≡ record l.initial.self { told = l.self.told };
}
