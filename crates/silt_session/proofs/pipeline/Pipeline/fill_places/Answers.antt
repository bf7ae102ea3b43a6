use Rattle.silt_session.proofs.Common.{rules, ◌++◌, ◌∷◌, [], append_assoc, refl, sym, ◌∙◌, ap, append-nil, Pipeline}
use Rattle.silt_session.proofs.Pipelines.{fills_more}
use Rattle.silt_session.proofs.Tolds.{passes_both, passes_none}
use Rattle.silt_session.proofs.pipeline.Pipeline.fill_places.Goals as goal

pub loop-place-init : goal.loop-place-init
loop-place-init g c = record { same = refl; told = passes_none _; room = c.requires; replies_room = refl; places_room = refl; so_far = ([], [], refl, sym (append-nil _), (refl, refl)) }

pub loop-place-preserved : goal.loop-place-preserved
loop-place-preserved g c =
    let before = c.loop-place.invariant in
    let (done, given, whole, was, fills) = before.so_far in
    let place = c.in-Some.place in
    let reply = c.in-Some-given.reply in
    record {
      same = ap (λ (p : Pipeline _ _ _). record p { replies = c.push_reserved.new.self; places = c.pop_front.new.self; told = c.given.new.told }) before.same;
      told = passes_both _ _ _ before.told c.given.ensures.told;
      room = search rules;
      replies_room = search rules;
      places_room = search rules;
      so_far = (
        done ++ place ∷ [],
        given ++ reply ∷ [],
        append_assoc done (place ∷ []) c.pop_front.new.self.items ∙ ap (λ l. done ++ l) (sym c.in-Some.ensures.items) ∙ whole,
        c.push_reserved.ensures.items ∙ ap (λ l. l ++ reply ∷ []) was ∙ append_assoc _ given (reply ∷ []),
        fills_more g.D.Disk g.T.Trace c.args.self.now.told c.args.flushed.now c.args.self.now.told.next c.loop-place.self.told.next
            c.given.new.told.next c.args.tasks.items c.loop-place.tasks.items c.given.new.tasks.items done given place
            reply fills
            (rw before.told.same at c.in-Some-given.ensures.fills),
      );
    }
