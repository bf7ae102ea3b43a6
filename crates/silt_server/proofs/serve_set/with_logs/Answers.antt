use Rattle.silt_server.proofs.Names.{◌≡◌, ◌∙◌, ◌++◌, ◌∷◌, [], ap, append_assoc, arith, length, map, rules, sym, vec_len, append-nil, map-append, nil_from_length, into_iter_items}
use Rattle.silt_server.proofs.Sets.{at_last_of}
use Rattle.silt_server.proofs.serve_set.with_logs.Goals as goal

pub loop-core-init : goal.loop-core-init
loop-core-init g c =
    let given = c.into_iter-core-iterator.ensures.into_iter_gives in
    let long : length c.args.cores.items ≡ vec_len c.args.cores = search rules in
    let stores = c.in_ok-stores.ensures in
    let made = c.in_ok-stores.stores in
    let none : made.items ≡ [] = nil_from_length made.items (omega (arith, stores.len, made.ok.0)) in
    record {
      can = tt;
      finite = tt;
      made = omega (arith, stores.len);
      room = omega (arith, stores.len, stores.room, c.len.ensures, ap length given.0, long);
      cores = ap (λ l. map (λ store. store.core) l ++ into_iter_items c.into_iter-core-iterator.result) none;
      logs = rw none (λ i log here. absurd (cc));
    }

pub loop-core-preserved : goal.loop-core-preserved
loop-core-preserved g c =
    let before = c.loop-core.invariant in
    let items = c.in-Some.ensures.steps.0 in
    let stores = c.loop-core.stores.items in
    let more = c.push_reserved.ensures.items in
    record {
      can = tt;
      finite = tt;
      made = omega (arith, before.made, ap length items, c.push_reserved.ensures.len);
      room = omega (arith, before.room, ap length items, c.push_reserved.ensures.len, c.push_reserved.ensures.capacity);
      cores = ap (λ l. map (λ store. store.core) l ++ into_iter_items c.next.new.self) more ∙ ap (λ l. l ++ into_iter_items c.next.new.self) (map-append (λ store. store.core) stores _)
          ∙ append_assoc (map (λ store. store.core) stores) (c.in-Some.core ∷ []) (into_iter_items c.next.new.self)
          ∙ ap (λ l. map (λ store. store.core) stores ++ l) (sym items) ∙ before.cores;
      logs = at_last_of (λ i log. (log.shard ≡ i) × (log.calls ≡ [])) (λ store. store.log) stores _ _ more before.logs
          (c.new-log.ensures.shard ∙ c.len-in-loop-core.ensures ∙ search rules, c.new-log.ensures.calls);
    }

pub returns-clause-cores : goal.returns-clause-cores
returns-clause-cores g c =
    let before = c.loop-core.invariant in
    let left = c.loop-core.core-iterator in
    let ended = nil_from_length (into_iter_items left) (omega (arith, c.in-None.ensures.steps.0, left.rest.ok.0)) in
    rw (ended, append-nil, c.into_iter-core-iterator.ensures.into_iter_gives.0) at before.cores
