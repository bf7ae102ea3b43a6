use Rattle.silt_session.proofs.Common.{rules, ◌++◌, ◌∷◌, [], refl, sym, ◌∙◌, ap, append_assoc, append-nil, into_iter_items, AnswersClient, All-rest, HasValueOf}
use Rattle.silt_event.proofs.Answering.{each_more}
use Rattle.silt_session.proofs.client.ClientAnswerer.answer_all.Goals as goal

pub loop-event-init : goal.loop-event-init
loop-event-init g c =
    let given = c.into_iter-event-iterator.ensures.into_iter_gives in
    record {
      can = tt;
      finite = tt;
      stays = refl;
      values = rw given.0 c.requires.values;
      room = search rules;
      so_far = ([], [], refl, sym (append-nil _), refl);
    }

pub loop-event-preserved : goal.loop-event-preserved
loop-event-preserved g c =
    let before = c.loop-event.invariant in
    let (done, given, all, was, each) = before.so_far in
    let items = c.in-Some.ensures.steps.0 in
    record {
      can = tt;
      finite = tt;
      stays = c.answer.ensures.stays ∙ before.stays;
      values = All-rest (HasValueOf c.args.self.now.value_len) c.in-Some.event (into_iter_items c.next.new.self) _ items before.values;
      room = search rules;
      so_far = (
        _,
        _,
        append_assoc done (c.in-Some.event ∷ []) (into_iter_items c.next.new.self) ∙ ap (λ l. done ++ l) (sym items) ∙ all,
        c.push_reserved.ensures.items ∙ ap (λ l. l ++ c.answer.result ∷ []) was ∙ append_assoc _ given (c.answer.result ∷ []),
        each_more (AnswersClient g.A.Asking.gives) _ _ _ done given c.in-Some.event c.answer.result each c.answer.ensures.answers,
      );
    }
