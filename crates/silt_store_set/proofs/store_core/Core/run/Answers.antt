use Rattle.silt_store_set.proofs.Common.{◌≡◌, ◌+◌, ◌++◌, ◌∷◌, [], List, take, sym, ◌∙◌, subst, take_more, take_all, Event, Runs, rules}
use Rattle.silt_store_set.proofs.Calls.{endures_seen}
use Rattle.silt_store_set.proofs.Keeps.{keeps_runs}
use Rattle.silt_store_set.proofs.RunCosts.{run_made}
use Rattle.silt_store_set.proofs.Runs.{runs_more, legal_runs}
use Rattle.silt_store_set.proofs.store_core.Core.run.Goals as goal

pub loop-event-preserved : goal.loop-event-preserved
loop-event-preserved g c = record {
  runs =
      let taken : take (c.loop-event.event-index + 1) c.args.events.now ≡ take c.loop-event.event-index c.args.events.now ++ c.event-item.result ∷ [] =
      cc (take_more c.args.events.now c.loop-event.event-index c.event-item.result c.loop-event-test.true, c.event-item.is) in
      rw (taken, c.in_ok-push.ensures.items) (runs_more g.D.Disk c.args.self.now c.loop-event.self c.answer-reply.new.self
      (take c.loop-event.event-index c.args.events.now) c.loop-event.replies.items c.event-item.result c.answer-reply.result c.loop-event.invariant.runs c.answer-reply.ensures);
  same_disk = record {
    size = c.answer-reply.ensures.disk.size ∙ c.loop-event.invariant.same_disk.size;
    honest = c.answer-reply.ensures.disk.honest ∙ c.loop-event.invariant.same_disk.honest;
  };
  same_shape = c.answer-reply.ensures.shape ∙ c.loop-event.invariant.same_shape;
  count = search rules;
  room = search rules;
}

pub returns-clause-legal : goal.returns-clause-legal
returns-clause-legal g c = λ h.
    let all = take_all c.loop-event.event-index c.args.events.now c.loop-event-test.false in
    legal_runs g.D.Disk c.args.self.now c.loop-event.self c.args.events.now c.loop-event.replies.items h
    (subst (λ (events : List Event). Runs g.D.Disk c.args.self.now events c.loop-event.replies.items c.loop-event.self) all c.loop-event.invariant.runs)

pub returns-clause-kept : goal.returns-clause-kept
returns-clause-kept g c = λ working.
    let all = take_all c.loop-event.event-index c.args.events.now c.loop-event-test.false in
    let runs = subst (λ (events : List Event). Runs g.D.Disk c.args.self.now events c.loop-event.replies.items c.loop-event.self) all c.loop-event.invariant.runs in
    let safe = (endures_seen g.D.Disk c.self.inside.disk c.self.inside.engine c.self.inside.count c.self.inside.failed c.self.inside.basis
    c.args.self.now c.self.view_is c.self.invariant).safe working in
    record {
      each = λ h image left. keeps_runs g.D.Disk c.args.self.now c.loop-event.self c.args.events.now c.loop-event.replies.items working safe runs (sym c.loop-event.invariant.same_disk.honest ∙ h)
          image left;
    }

pub returns-clause-made : goal.returns-clause-made
returns-clause-made g c =
    let all = take_all c.loop-event.event-index c.args.events.now c.loop-event-test.false in
    run_made g.D.Disk c.args.self.now c.loop-event.self c.args.events.now c.loop-event.replies.items
    (subst (λ (events : List Event). Runs g.D.Disk c.args.self.now events c.loop-event.replies.items c.loop-event.self) all c.loop-event.invariant.runs)

pub returns-clause-runs : goal.returns-clause-runs
returns-clause-runs g c =
    let all = take_all c.loop-event.event-index c.args.events.now c.loop-event-test.false in
    subst (λ (events : List Event). Runs g.D.Disk c.args.self.now events c.loop-event.replies.items c.loop-event.self) all c.loop-event.invariant.runs
