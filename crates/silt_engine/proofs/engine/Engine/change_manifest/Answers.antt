use Rattle.silt_engine.proofs.Common.{refl, ◌∙◌, arith, EngineState, made_both, most_both, most_more}
use Rattle.silt_engine.proofs.Exits.{state_of, wrote_off}
use Rattle.silt_engine.proofs.NextBodies.{at_commit, before_commit, both_steps, manifest_breaks, manifest_map, becomes_current}
use Rattle.silt_engine.proofs.engine.Engine.change_manifest.Goals as goal

pub prepare_next-requires-clause-next : goal.prepare_next-requires-clause-next
prepare_next-requires-clause-next g c κs within =
    let may = rw (← c.self.view_is) at c.requires.next in
    may.follows c.current-known.ensures.sound

pub returns-in_err-prepare_next-clause-wrote : goal.returns-in_err-prepare_next-clause-wrote
returns-in_err-prepare_next-clause-wrote g c =
    let stores : EngineState = state_of c.self.inside in
    let stands = rw (← c.self.view_is) at c.requires.stands in
    let may = rw (← c.self.view_is) at c.requires.next in
    rw (← c.self.view_is) (wrote_off _ _ c.from_residual.ensures.1 c.prepare_next.ensures.wrote.size c.prepare_next.ensures.wrote.changes
    (most_more c.in_err-prepare_next.ensures.wrote.made (omega arith) (omega arith)) (record {
      counted = c.in_err-prepare_next.ensures.wrote.failures;
      breaks = manifest_breaks _ _ stores _ _ stands may c.prepare_next.ensures.wrote.size c.prepare_next.ensures.wrote.changes (before_commit _ stores _ _ c.prepare_next.ensures.each);
      map = manifest_map _ _ stores _ _ stands may c.prepare_next.ensures.wrote.size c.prepare_next.ensures.wrote.changes (before_commit _ stores _ _ c.prepare_next.ensures.each);
    }))

pub returns-in_err-commit_next-clause-wrote : goal.returns-in_err-commit_next-clause-wrote
returns-in_err-commit_next-clause-wrote g c =
    let stores : EngineState = state_of c.self.inside in
    let stands = rw (← c.self.view_is) at c.requires.stands in
    let may = rw (← c.self.view_is) at c.requires.next in
    let steps = both_steps stores _ _ _ c.in_ok-prepare_next.ensures.state _ _ _ c.prepare_next.ensures.wrote.changes c.commit_next.ensures.wrote.changes in
    let same = c.commit_next.ensures.wrote.size ∙ c.prepare_next.ensures.wrote.size in
    rw (← c.self.view_is) (wrote_off _ _ c.from_residual-in_err-commit_next.ensures.1 same steps
    (most_both _ c.in_ok-prepare_next.ensures.wrote.made c.in_err-commit_next.ensures.wrote.made (omega arith) (omega arith)) (record {
      counted = (cc (c.in_err-commit_next.ensures.wrote.failures.0, c.in_ok-prepare_next.ensures.wrote.failures), c.in_err-commit_next.ensures.wrote.failures.1);
      breaks = manifest_breaks _ _ stores _ _ stands may same steps (at_commit stores _ _ _ c.in_ok-prepare_next.ensures.state _ c.commit_next.ensures.each);
      map = manifest_map _ _ stores _ _ stands may same steps (at_commit stores _ _ _ c.in_ok-prepare_next.ensures.state _ c.commit_next.ensures.each);
    }))

pub returns : goal.returns
returns g c =
    let stores : EngineState = state_of c.self.inside in
    let stands = rw (← c.self.view_is) at c.requires.stands in
    let may = rw (← c.self.view_is) at c.requires.next in
    let first = c.in_ok-prepare_next.ensures in
    let second = c.in_ok-commit_next.ensures in
    let same = c.commit_next.ensures.wrote.size ∙ c.prepare_next.ensures.wrote.size in
    let steps = both_steps stores _ _ _ first.state _ _ _ c.prepare_next.ensures.wrote.changes c.commit_next.ensures.wrote.changes in
    record {
      wrote = rw (← c.self.view_is) (record {
        size = same;
        changes = steps;
        made = made_both c.prepare_next.new.disk first.wrote.made second.wrote.made refl refl;
        failures = second.wrote.failures ∙ first.wrote.failures;
      });
      ok = rw (← c.self.view_is) (becomes_current stores _ _ _ first.state _ _ _ _ c.prepare_next.ensures.wrote.changes c.commit_next.ensures.wrote.changes
          second.current second.state.0 second.new second.state.2);
      map = rw (← c.self.view_is) (manifest_map _ _ stores _ _ stands may same steps (at_commit stores _ _ _ first.state _ c.commit_next.ensures.each));
    }
