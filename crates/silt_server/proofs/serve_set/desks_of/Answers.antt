use Rattle.silt_server.proofs.Names.{◌≡◌, ◌∙◌, ap, arith, length}
use Rattle.silt_server.proofs.Sets.{at_last_of}
use Rattle.silt_server.proofs.serve_set.desks_of.Goals as goal

pub loop-shard-preserved : goal.loop-shard-preserved
loop-shard-preserved g c =
    let before = c.loop-shard.invariant in
    let items = c.in-Some.ensures.steps.0 in
    let same = c.shard.ensures ∙ ap (λ trace. trace.shard) c.trace.ensures.trace in
    let here : c.into_inner-desk.result.trace.shard ≡ length c.loop-shard.desks.items = omega (arith, same, c.len.ensures, c.loop-shard.desks.ok.0) in
    record {
      can = tt;
      finite = tt;
      taken = omega (arith, before.taken, ap length items, c.push_reserved.ensures.len);
      room = omega (arith, before.room, c.push_reserved.ensures.capacity);
      place = at_last_of (λ i trace. trace.shard ≡ i) (λ desk. desk.trace) c.loop-shard.desks.items _ _ c.push_reserved.ensures.items before.place here;
    }
