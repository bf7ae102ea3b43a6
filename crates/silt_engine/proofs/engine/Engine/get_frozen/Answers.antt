use Rattle.silt_engine.proofs.Common.{ap, ◌∙◌, EngineState, put_place}
use Rattle.silt_engine.proofs.Walks.{found_here, frozen_value, log_passed, none_of}
use Rattle.silt_engine.proofs.engine.Engine.get_frozen.Goals as goal

pub returns-in-Some-clause-found : goal.returns-in-Some-clause-found
returns-in-Some-clause-found g c = λ stands honest.
    let are = c.deref-log-items.ensures.value ∙ ap (λ (v : EngineState). v.frozen) c.self.view_is in
    found_here (g.D.Disk.content c.args.disk.now) c.args.self.now _ _ _ are c.loop-index-test.true c.log-item.is c.args.key.now.0 _ stands honest
    c.in_ok-found.ensures.last (c.loop-index.invariant.lack stands honest) c.in-Some.found c.in-Some.is

pub loop-index-preserved : goal.loop-index-preserved
loop-index-preserved g c = record {
  kept = c.in_ok-found.ensures.kept (ap put_place (none_of _ c.in_default.not-Some)) ∙ c.loop-index.invariant.kept;
  lack = λ stands honest.
      let are = c.deref-log-items.ensures.value ∙ ap (λ (v : EngineState). v.frozen) c.self.view_is in
      log_passed _ _ _ _ _ are c.loop-index-test.true c.log-item.is _ _ stands honest c.in_ok-found.ensures.last (c.loop-index.invariant.lack stands honest) c.in_default.not-Some;
}

pub returns-in-Some-clause-value : goal.returns-in-Some-clause-value
returns-in-Some-clause-value g c = λ honest.
    let are = c.deref-log-items.ensures.value ∙ ap (λ (v : EngineState). v.frozen) c.self.view_is in
    frozen_value (g.D.Disk.content c.args.disk.now) c.args.self.now _ _ _ are c.loop-index-test.true c.log-item.is _ c.in-Some.found _ c.in-Some.is (c.in_ok-found.ensures.value honest)
