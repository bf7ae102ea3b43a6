use Rattle.silt_session.proofs.Common.{◌++◌, ◌∷◌, [], append_assoc, length, refl, sym, ◌∙◌, ap, arith, append-nil, into_iter_items, nil_from_length}
use Rattle.silt_session.proofs.Pipelines.{answers_none}
use Rattle.silt_session.proofs.Tolds.{more_both, more_none}
use Rattle.silt_session.proofs.session.Session.take_all.Goals as goal

pub loop-event-init : goal.loop-event-init
loop-event-init g c =
    let given = c.into_iter-event-iterator.ensures.into_iter_gives in
    record {
      can = tt;
      finite = tt;
      room = (omega (arith, c.requires.room.0, ap length given.0, c.args.events.ok.0), omega (arith, c.requires.room.1, ap length given.0, c.args.events.ok.0));
      so_far = ([], refl, answers_none g.D.Disk _ g.T.Trace c.args.pipeline.now c.requires.settled c.requires.none c.requires.order);
      told = more_none c.args.pipeline.now.told;
    }

pub loop-event-preserved : goal.loop-event-preserved
loop-event-preserved g c =
    let before = c.loop-event.invariant in
    let (done, whole, some) = before.so_far in
    let items = c.in-Some.ensures.steps.0 in
    record {
      can = tt;
      finite = tt;
      room = c.in_ok-take.ensures.room (length (into_iter_items c.next.new.self)) (omega (arith, before.room.0, ap length items), omega (arith, before.room.1, ap length items));
      so_far = (
        done ++ c.in-Some.event ∷ [],
        append_assoc done (c.in-Some.event ∷ []) (into_iter_items c.next.new.self) ∙ ap (λ l. done ++ l) (sym items) ∙ whole,
        c.in_ok-take.ensures.answers done some,
      );
      told = more_both _ _ _ before.told c.in_ok-take.ensures.told;
    }

pub returns-clause-answers : goal.returns-clause-answers
returns-clause-answers g c =
    let (done, whole, some) = c.loop-event.invariant.so_far in
    let given = c.into_iter-event-iterator.ensures.into_iter_gives in
    let left = c.loop-event.event-iterator in
    let ended = nil_from_length (into_iter_items left) (omega (arith, c.in-None.ensures.steps.0, left.rest.ok.0)) in
    let all = rw (ended, append-nil done, given.0) at whole in rw all at some

pub returns-clause-told : goal.returns-clause-told
returns-clause-told g c = c.loop-event.invariant.told
