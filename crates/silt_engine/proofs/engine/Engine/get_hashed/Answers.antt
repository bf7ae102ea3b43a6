use Rattle.silt_engine.proofs.Common.{ap, ◌∙◌, EngineState, put_place}
use Rattle.silt_engine.proofs.Walks.{hash_here, hash_passed, hashed_value, none_of}
use Rattle.silt_engine.proofs.engine.Engine.get_hashed.Goals as goal

pub returns-in-Some-clause-found : goal.returns-in-Some-clause-found
returns-in-Some-clause-found g c = λ stands honest.
    let are = c.deref-store-items.ensures.value ∙ ap (λ (v : EngineState). v.hashes) c.self.view_is in
    hash_here _ _ _ _ _ are c.loop-index-test.true c.store-item.is _ _ stands honest c.in_ok-found.ensures.finds (c.loop-index.invariant.lack stands honest) _ c.in-Some.is

pub loop-index-preserved : goal.loop-index-preserved
loop-index-preserved g c = record {
  kept = c.in_ok-found.ensures.kept (ap put_place (none_of _ c.in_default.not-Some)) ∙ c.loop-index.invariant.kept;
  lack = λ stands honest.
      let are = c.deref-store-items.ensures.value ∙ ap (λ (v : EngineState). v.hashes) c.self.view_is in
      hash_passed _ _ _ _ _ are c.loop-index-test.true c.store-item.is _ _ stands honest c.in_ok-found.ensures.finds (c.loop-index.invariant.lack stands honest) c.in_default.not-Some;
}

pub returns-in-Some-clause-value : goal.returns-in-Some-clause-value
returns-in-Some-clause-value g c = λ honest.
    let are = c.deref-store-items.ensures.value ∙ ap (λ (v : EngineState). v.hashes) c.self.view_is in
    hashed_value (g.D.Disk.content c.args.disk.now) c.args.self.now _ _ _ are c.loop-index-test.true c.store-item.is _ c.in-Some.found _ c.in-Some.is (c.in_ok-found.ensures.value honest)
