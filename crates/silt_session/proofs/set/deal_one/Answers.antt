use Rattle.silt_session.proofs.Common.{◌<◌, ◌∙◌, Vec, refl, sym, vec_len, slice_get_read}
use Rattle.silt_session.proofs.Sets.{all_dealt, deals_one}
use Rattle.silt_session.proofs.set.deal_one.Goals as goal

pub returns-in_ok-push-in-One : goal.returns-in_ok-push-in-One
returns-in_ok-push-in-One c =
    let old = c.args.parts.now in
    let shard = c.in-One.shard in
    let within : shard < vec_len old = rw c.in-One.is at c.requires.within in
    deals_one (λ (part : Vec _ _). part.items) (vec_len old) c.args.event shard old.items _ c.index_mut.result.now c.push.new.self (sym c.requires.route ∙ c.in-One.is)
    (slice_get_read old.items (vec_len old) shard c.index_mut.result.now old.ok.0 within c.index_mut.ensures.value) c.in_ok-push-in-One.ensures.items refl

pub returns-in-All : goal.returns-in-All
returns-in-All c =
    let old = c.args.parts.now in
    all_dealt (λ (part : Vec _ _). part.items) (vec_len old) c.args.event old.items c.flush_all.new.parts.items c.flush_all.result (sym c.requires.route ∙ c.in-All.is) c.flush_all.ensures
