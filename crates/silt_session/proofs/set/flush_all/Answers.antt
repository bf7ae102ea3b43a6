use Rattle.silt_session.proofs.Common.{◌≡◌, ◌∷◌, [], Vec, ◌++◌, ◌∙◌, arith, length-set, rest_next}
use Rattle.silt_event.specs.declared.event.Event.TheVariants.{Flush}
use Rattle.silt_session.proofs.Lists.{zip_next}
use Rattle.silt_session.proofs.set.flush_all.Goals as goal

pub loop-part-preserved : goal.loop-part-preserved
loop-part-preserved c =
    let before = c.loop-part.invariant in
    let old = c.deref_mut-part-items.result.now in
    let now = c.loop-part.part-items in
    let i = c.loop-part.part-index in
    record {
      done = zip_next (λ (old new : Vec _ _). new.items ≡ old.items ++ Flush ∷ []) old now i c.part-item.result _
          (omega (arith, c.loop-part-test.true, before.same_length)) before.same_length before.rest before.done
          c.in_ok-push.ensures.items;
      rest = rest_next old now i _ before.rest;
      same_length = length-set now i _ ∙ before.same_length;
    }
